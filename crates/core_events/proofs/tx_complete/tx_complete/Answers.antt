-- The gate's verdict and the event's own are the rules' reason. The object of an accepted event is in use, and its mailbox is stored there; a
-- refused one leaves everything as it was.
use mathlib.Core.Path.{refl, sym, ap, ◌∙◌}
use mathlib.Core.Bool.{not, ◌&&◌}
use mathlib.Core.List.{List, []}
use native.Mathlib.Omega.{arith}
use lib.Dec.{ltb}
use lib.ListN.{set}
use borrow.Author.Tests.{ltb-true}
use Rattle.std.proofs.lemmas.Result.{err_from_is_err_and}
use Rattle.rules.specs.Reason.{Check, first_reason, reasons_named}
use Rattle.rules.specs.Core.{Mailbox, with_mailboxes}
use Rattle.rules.specs.Outcome.{no_answer, no_report}
use Rattle.rules.specs.Events.{tx_complete}
use Rattle.laws.proofs.Tests.{left, not_false}
use Rattle.laws.proofs.Reasons.{then_first, then_second, check_passed}
use Rattle.core_places.specs.View.{view_controller, view_mailbox}
use Rattle.core_answers.specs.Answer.{verdict_reason}
use Rattle.core_answers.proofs.Laws.{behind, reason_named, noted_none, accepted_performed, refused_performed}
use Rattle.core_events.specs.Checks.{sent_checks}
use Rattle.core_events.proofs.Laws.{sent_read}
use Rattle.core_events.proofs.tx_complete.tx_complete.Goals as goal

pub set_mailbox-requires : goal.set_mailbox-requires
unfolding reasons_named
set_mailbox-requires g c =
    let a = c.args in
    let used = ltb a.object c.object_count.result in
    let sending = used && not c.owner-owner.result.receiving in
    let checks : List Check = sent_checks c.initialised.result sending (view_mailbox c.mailbox-m.result) (view_controller c.controller-k.result) in
    let none = sym (behind _ _ c.and.ensures refl c.judge_sent.ensures) ∙ ap verdict_reason c.in_ok-and.was in
    let sends = not_false sending (check_passed 1 checks refl (then_second (verdict_reason a.gate) (first_reason checks) none)) in
    omega (arith, c.object_count.ensures, ltb-true a.object c.object_count.result (left used (not c.owner-owner.result.receiving) sends), c.requires (then_first (verdict_reason a.gate) (first_reason checks) none))

pub returns-clause-performed : goal.returns-clause-performed
unfolding tx_complete
returns-clause-performed g c ram =
    let core = g.K.CorePlaces.core c.args.core.now in
    let found = behind _ _ c.and.ensures refl (c.judge_sent.ensures ∙ sent_read core c.args.object c.initialised.ensures c.object_count.ensures c.owner-owner.ensures c.controller-k.ensures c.mailbox-m.ensures) in
    accepted_performed _ no_report no_answer core ram no_answer _ ram [] (sym (ap verdict_reason c.in_ok-and.was) ∙ found) refl refl
    (c.set_mailbox.ensures.core ∙ ap (λ (m : Mailbox). with_mailboxes core (set core.mailboxes c.args.object m)) c.sent_mailbox.ensures)
    refl

pub returns-in_err-and-clause-performed : goal.returns-in_err-and-clause-performed
unfolding tx_complete
returns-in_err-and-clause-performed g c ram =
    let core = g.K.CorePlaces.core c.args.core.now in
    let found = behind _ _ c.and.ensures refl (c.judge_sent.ensures ∙ sent_read core c.args.object c.initialised.ensures c.object_count.ensures c.owner-owner.ensures c.controller-k.ensures c.mailbox-m.ensures) in
    let p = err_from_is_err_and c.from_residual.result c.from_residual.ensures.1 in
    rw (p.1, p.2) (refused_performed _ no_report no_answer core ram _ (sym (ap verdict_reason c.in_err-and.was) ∙ found) (reason_named _) refl (noted_none []))
