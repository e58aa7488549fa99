-- The words that are written are the notification's.
use Rattle.core_layout.proofs.notification.put.Goals as goal

pub returns : goal.returns
returns c = rw (← c.words.ensures) c.put_words.ensures
