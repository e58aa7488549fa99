-- The table of wire lengths and DLC codes. 02, Q-3: "Use a table of 65 entries, checked against the rule once as a whole."
use Rattle.std.specs.Prelude.{ℕ, zero, suc, ◌≡◌, List, [], ◌∷◌, ◌++◌, length, get_or, replicate}

-- the entry of each length from 0 to 64: wire length and DLC code, one byte each, as bytes 4 and 5 of an object
abbrev pub wire_table : List ℕ
wire_table =
    (0x0000 ∷ 0x0101 ∷ 0x0202 ∷ 0x0303 ∷ 0x0404 ∷ 0x0505 ∷ 0x0606 ∷ 0x0707 ∷ 0x0808 ∷ [])
    ++ (replicate 4 0x0C09
    ++ (replicate 4 0x100A
    ++ (replicate 4 0x140B
    ++ (replicate 4 0x180C
    ++ (replicate 8 0x200D
    ++ (replicate 16 0x300E
    ++ replicate 16 0x400F))))))

-- how many there are: 02's 65
abbrev pub entries : ℕ
entries = length wire_table

-- past the table: 255 for no wire length, and the DLC code past the last
abbrev pub no_entry : ℕ
no_entry = 0xFF10

-- the entry of length n
abbrev pub wire_entry : ℕ → ℕ
wire_entry n = get_or wire_table n no_entry

-- n is none of the numbers below k
abbrev pub NoneBelow : ℕ → ℕ → Type 0
NoneBelow zero n = Unit
NoneBelow (suc k) n = NoneBelow k n × (n ≡ k → ⊥)
