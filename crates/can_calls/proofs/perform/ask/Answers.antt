-- `can_calls::perform::ask` meets its contract: the service is the one of the question.
use Rattle.can_calls.proofs.perform.ask.Goals as goal

pub returns-in-Mode : goal.returns-in-Mode
returns-in-Mode c = rw c.in-Mode.is c.get_controller_mode.ensures

pub returns-in-ErrorState : goal.returns-in-ErrorState
returns-in-ErrorState c = rw c.in-ErrorState.is c.get_controller_error_state.ensures

pub returns-in-RxErrors : goal.returns-in-RxErrors
returns-in-RxErrors c = rw c.in-RxErrors.is c.get_controller_rx_error_counter.ensures

pub returns-in-TxErrors : goal.returns-in-TxErrors
returns-in-TxErrors c = rw c.in-TxErrors.is c.get_controller_tx_error_counter.ensures
