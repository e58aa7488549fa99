-- `can_calls::perform::service` meets its contract: the service is the one that the request names. Those that take no memory leave it as it
-- is.
use lib.ListN.{length}
use Rattle.rules.specs.Outcome.{of_mode, of_error_state, of_rx_errors, of_tx_errors}
use Rattle.can_state.specs.View.{view}
use Rattle.can_calls.specs.Request.{outcome_of}
use Rattle.can_calls.proofs.Laws.{told, set_keeps, ask_keeps}
use Rattle.can_calls.proofs.Arms.{last_service}
use Rattle.can_calls.proofs.perform.service.Goals as goal

pub returns-in-Init : goal.returns-in-Init
unfolding outcome_of
returns-in-Init c =
    rw c.in-Init.is
    (told c.with_verdict.ensures c.init.ensures)

pub returns-in-DeInit : goal.returns-in-DeInit
unfolding outcome_of
returns-in-DeInit c =
    rw c.in-DeInit.is
    (told c.with_verdict-in-DeInit.ensures c.deinit.ensures)

pub returns-in-Set : goal.returns-in-Set
unfolding outcome_of
returns-in-Set c =
    let given = c.args in
    rw c.in-Set.is
    (told c.with_verdict-in-Set.ensures
    (set_keeps (view given.state) given.request.controller given.ram.now (length given.sheet.now) given.request.number
    c.set_controller_mode.ensures))

pub returns-in-Get : goal.returns-in-Get
unfolding outcome_of
returns-in-Get c =
    let given = c.args in
    rw c.in-Get.is
    (ask_keeps (view given.state) given.request.controller given.ram.now of_mode (length given.sheet.now) c.get.ensures)

pub returns-in-ErrorState : goal.returns-in-ErrorState
unfolding outcome_of
returns-in-ErrorState c =
    let given = c.args in
    rw c.in-ErrorState.is
    (ask_keeps (view given.state) given.request.controller given.ram.now of_error_state (length given.sheet.now) c.get-in-ErrorState.ensures)

pub returns-in-RxErrors : goal.returns-in-RxErrors
unfolding outcome_of
returns-in-RxErrors c =
    let given = c.args in
    rw c.in-RxErrors.is
    (ask_keeps (view given.state) given.request.controller given.ram.now of_rx_errors (length given.sheet.now) c.get-in-RxErrors.ensures)

pub returns-in-TxErrors : goal.returns-in-TxErrors
unfolding outcome_of
returns-in-TxErrors c =
    let given = c.args in
    rw c.in-TxErrors.is
    (ask_keeps (view given.state) given.request.controller given.ram.now of_tx_errors (length given.sheet.now) c.get-in-TxErrors.ensures)

pub returns-in_default : goal.returns-in_default
unfolding outcome_of
returns-in_default c =
    rw (last_service c.args.request.function c.requires c.in_default.not-Init c.in_default.not-DeInit c.in_default.not-Set c.in_default.not-Get c.in_default.not-ErrorState c.in_default.not-RxErrors c.in_default.not-TxErrors)
    c.write.ensures
