-- The rules. A file that states a section of 01 names it; the list at the end has the files in the order in which they build on each
-- other.
--
-- Core is the part of the driver state that never sees a frame: who owns each object, and what waits where. Services, Polls and Events
-- have the parts of the calls that look at no frame, on a core. Calls has the calls themselves, 01's twelve and 02's questions, error counts
-- and choice of who sends next, on a driver state: a core, and what is configured of each object's frames. Writer has a configuration's bytes.
-- Each is written once, for any limits (Limits) and any kind of frame (Format). Can is 01's kind of frame, and Chip has the limits of this chip.
--
-- Identifiers are the field's terms. The glossary gives 01's word, the identifier for it here, and what to know beside; words that are
-- the same in both are left out. Its groups are the sections of 01, with the files that state them.
--
-- What the bench is made of; Records (Limits, Chip, Core, State, Bytes, Head, Notification)
--   controller                   Controller                           its mode, request and mark; c is its number
--   its errors (02, Q-5)         Errors                               of a controller too: its second mark and its two counts
--   hardware object, object      Owner, Mailbox, Settings             its owner and kind, its flags, its frames' settings; h is its number
--   sending, receiving; kind     receiving                            of an Owner: false, true
--   pool, pool number (02, Q-2)  pool                                 of an Owner; 0 of a receiving one. A member is in_pool
--   place                        controller_at, owner_at, mailbox_at  an entry of the state's lists, in use or not; errors_at, settings_at too
--   driver state                 State                                a Core, and the settings of each object
--   sound                        valid                                what of it looks at no frame is core_valid
--   at rest, unused (controller) idle_controller, no_errors           everything zero, none or clear; the tests are controller_idle, errors_none
--   at rest, unused (object)     unused_owner, empty_mailbox          and unused_settings; tested by owner_unused and mailbox_empty
--   sound before initialisation  initial_state                        its core is initial_core
--   waiting request              requested_mode                       none is NO_REQUEST
--   off-bus mark, marked         bus_off                              of a Controller
--   second mark (02, Q-5)        recovering                           of its Errors
--   transmit, receive count      tx_errors, rx_errors                 of its Errors; the state that they make: error_state
--   occupied                     tx_pending                           written, and its closing notice is due; else it is free
--   gone                         tx_done                              sent, and its confirmation is due
--   full                         rx_full                              received, and its indication is due; else it is empty
--   mailbox memory, memory       ram                                  message RAM, of ram_size bytes; object h begins at object_start
--   an object's 72 bytes         object_in, object_bytes              object_size of them, as they stand in a memory; as they are laid down
--   notice sheet, sheet          sheet                                of sheet_size words at least; a call leaves it as sheet_after says
--   record, notice               Notification                         its four words are words; a call writes notification_limit at most
--
-- Configuration bytes (Configuration, Can, Writer)
--   record of 12 bytes           object_record                        of a configuration: no Notification; owner_of and settings_of read it
--   controllers, objects n       controller_count, object_count       in the bytes controllers_byte and objects_byte
--   payload, padding value       payload, padding                     of Settings
--   filter code, filter mask     code, mask                           of Settings too
--   version (02, Q-2)            version_of                           bytes 3 and 4; those that there are: known_version
--   its own pool, own number     pool_of                              what a record of a version says of the pool of object h
--   must agree (02, Q-2)         pool_valid, settings_agreed          each object of a pool with the lowest: controller; payload and padding
--   stray bit (02, Q-1)          stray_at                             a one of the code where the mask has a zero; without any: within_mask
--   one that Init accepts        configuration_valid                  once it is read: configuration_of
--   bad configuration            not accepted_bytes
--   writer (02, Q-2)             configuration_bytes, buffer_after    the bytes of a version, and the buffer they are written into
--   what a version can say       can_say                              else 9; then 32 for a short buffer: writer_reason
--
-- Identifiers and lengths (Format, Can, Events)
--   frame                        Frame                                an identifier word and data; each Format has its own
--   data                         sdu                                  AUTOSAR's service data unit; in an object object_data
--   extended, FD, good           is_extended, is_fd, identifier_good  of an identifier word
--   wire length, DLC code        wire_length, dlc_code                at which data of a length go out
--   fits a frame                 fits_frame                           receiving, the controllers agree, and accepts: here filter_accepts
--
-- Modes; Services and polls (Mode, Services, Polls, Calls, Can)
--   Init, DeInit, Write          init, deinit, write
--   SetControllerMode, Set       set_controller_mode
--   GetControllerMode, Get       ask_controller                       of_mode; 02's questions, Q-5: of_error_state, of_rx_errors, of_tx_errors
--   handle                       handle                               read back from an object's bytes by handle_in
--   names the pool (02, Q-2)     names_pool                           a sending object that is its pool's lowest: lowest_of
--   lowest free member           free_member                          of the pool of object h; h itself where none is free
--   write poll                   main_function_write                  visits every object in use, as a read poll does: visit_all
--   read poll                    main_function_read
--   mode poll                    main_function_mode                   every controller in use has its turn, as in a bus-off poll: turn_all
--   bus-off poll                 main_function_bus_off
--   closing notice               closing_notification                 tx_confirmation or tx_cancellation, by the mailbox alone (02, Q-4)
--   confirmed and freed          confirmation                         of the gone objects
--   indicated and emptied        indication                           of the full objects; its record is rx_indication, kind 2, received
--   cancelled and freed          closing                              of a controller's occupied objects; the gone ones are confirmed (02, Q-4)
--   carried out and cleared      mode_change                          of a controller with a request; what it is then: entering_request
--   for each marked controller   going_off                            what a marked controller is then: entering_bus_off
--   leaving STARTED, a stop      leaves_started
--   mode record, bus-off record  mode_indication, bus_off_indication
--   entering passive (02, Q-5)   error_passive_indication             its record, kind 8, and passive_report, which writes it
--   in rising order              rising                               over numbers below n, each step on what the last one left (Repeat)
--   Data of an object            data_of
--
-- Bench events (Events, Calls, Can)
--   Sent                         tx_complete                          an unsent frame is has_unsent
--   Bus-off                      bus_off_detected
--   error counts (02, Q-5)       errors_counted                       "A new event .. sets both"; the mark by it: counted_controller
--   Arrived                      frame_arrived                        best_object is the one that fits best, the lowest among equals
--   stored, unwanted, lost       stored_in, unwanted, lost            answers of an arrival; a write's answer is taken_by
--   runtime error, data lost     data_lost
--   who sends next (02, Q-2)     next_to_send                         its answer is sends_next; among objects that wait: competes
--   base identifier, lower bits  base_identifier, lower_identifier    02's order as one number is arbitration_key; as a rank, priority
--
-- Reasons for a no (Reason, Outcome)
--   a no, a refusal              rejected
--   accepted, returns 0          accepted, is_accepted                what such a call leaves; demand 3's test of a call
--   return code                  code                                 return_code gives it by the reason
--   first that applies counts    first_reason                         of a list of Check, one for each reason; two in a row: ◌then◌
--   41, 32, 33                   state_gate, sheet_gate, full_gate    what comes before all other reasons, by what the call takes; ram_gate too
--   reasons from 32 up           SHEET_TOO_SHORT, .., INVALID_STATE   by number in Reason
--   record of kind 5, none       service_report, no_report            the record is development_error
--
-- What 01 has no word for (State, Outcome, Polls, Services, Events)
--   what a poll does at objects  Visit                                confirmation, indication, closing: when due, and what is told
--   what it does at controllers  Turn                                 mode_change, going_off: when due, if it leaves the bus, what is told
--   a call on the core           lifted                               makes it one on the state; the settings stay
--   the state with a core        with_core                            with the core that has object h occupied (taken) or full (filled)
--
-- The words of demand 3 (crates/history/specs)
--   the list                     List of Call                         history runs it; a Step is a call with its outcome
--   its own write                held, LastFrame                      an object's Account while a write is open; the last one's handle, if sent
--   mode book                    Reference                            the reference modes of a controller; reference_after feeds it
pub mod Limits
pub mod Repeat
pub mod Bytes
pub mod Head
pub mod Notification
pub mod Reason
pub mod Mode
pub mod Errors
pub mod Core
pub mod Format
pub mod Configuration
pub mod Writer
pub mod State
pub mod Outcome
pub mod Services
pub mod Polls
pub mod Events
pub mod Calls
pub mod Can
pub mod Chip
