-- The codes and texts of the faults that have a name.
use Rattle.std.specs.Prelude.{ℕ, List, codes}
use Rattle.journal_errors.specs.declared.faults.NamedFault.{NamedFault}
use Rattle.journal_errors.specs.declared.faults.NamedFault.TheVariants as fault

-- 400 and 415: the request is wrong; 570: replay doesn't fit; 571: the protocol was broken; 573:
-- the version lacks the feature; 598: closed; 599: suspended; 500: all else
abbrev pub code_of : NamedFault → ℕ
code_of fault.BadRequest = 400
code_of fault.MissingContentType = 415
code_of fault.BadContentType = 415
code_of fault.UnsupportedMediaType = 415
code_of fault.CommandTypeMismatch = 570
code_of fault.CommandMismatch = 570
code_of fault.UncompletedDoProgressDuringReplay = 570
code_of fault.UnsupportedFeature = 573
code_of fault.UnsupportedFeatureForNegotiatedVersion = 573
code_of fault.Closed = 598
code_of fault.Suspended = 599
code_of fault.Memory = 500
code_of fault.EmptyIdempotencyKey = 500
code_of fault.EmptyScope = 500
code_of fault.EmptyLimitKey = 500
code_of fault.OutOfBoundsDuration = 500
code_of fault.ExhaustedCompletionIds = 500
code_of fault.ExhaustedSignalIds = 500
code_of fault.ExhaustedHandles = 500
code_of fault.ExhaustedCommandIndexes = 500
code_of fault.ExhaustedEphemeralIds = 500
code_of fault.NoPendingRun = 500
code_of fault.BadMessage = 571
code_of fault.BadEagerStateKey = 571
code_of fault.KnownEntriesIsZero = 571
code_of fault.UnexpectedEntryMessage = 571
code_of fault.UnexpectedState = 571
code_of fault.UnexpectedInputMessage = 571
code_of fault.InputClosedWhileWaitingEntries = 571
code_of fault.UnavailableEntry = 571
code_of fault.EmptyGetEagerState = 571
code_of fault.EmptyGetEagerStateKeys = 571
code_of fault.BadProposeRunCompletionAck = 571
code_of fault.InputClosedWhileWaitingEphemeralNotifications = 571
code_of fault.EphemeralCommandDuringReplay = 571
code_of fault.EphemeralStateGetWithClosedInput = 571
code_of fault.EmptyGetStateEphemeralNotification = 571
code_of fault.UnexpectedInvocationIdResult = 571
code_of fault.StateKeyIsNotUtf8 = 571

-- the text of a named fault; out of memory has none
unfoldable pub text_of : NamedFault → List ℕ
text_of fault.BadRequest = codes "BAD_REQUEST"
text_of fault.MissingContentType = codes "MISSING_CONTENT_TYPE"
text_of fault.BadContentType = codes "BadContentType"
text_of fault.UnsupportedMediaType = codes "UNSUPPORTED_MEDIA_TYPE"
text_of fault.CommandTypeMismatch = codes "CommandTypeMismatchError"
text_of fault.CommandMismatch = codes "CommandMismatchError"
text_of fault.UncompletedDoProgressDuringReplay = codes "UncompletedDoProgressDuringReplay"
text_of fault.UnsupportedFeature = codes "UNSUPPORTED_FEATURE"
text_of fault.UnsupportedFeatureForNegotiatedVersion =
    codes "UnsupportedFeatureForNegotiatedVersion"
text_of fault.Closed = codes "ClosedError"
text_of fault.Suspended = codes "SUSPENDED"
text_of fault.Memory = codes ""
text_of fault.EmptyIdempotencyKey = codes "EMPTY_IDEMPOTENCY_KEY"
text_of fault.EmptyScope = codes "EMPTY_SCOPE"
text_of fault.EmptyLimitKey = codes "EMPTY_LIMIT_KEY"
text_of fault.OutOfBoundsDuration = codes "OutOfBoundsDuration"
text_of fault.ExhaustedCompletionIds = codes "exhausted: completion ids"
text_of fault.ExhaustedSignalIds = codes "exhausted: signal ids"
text_of fault.ExhaustedHandles = codes "exhausted: handles"
text_of fault.ExhaustedCommandIndexes = codes "exhausted: command indexes"
text_of fault.ExhaustedEphemeralIds = codes "exhausted: ephemeral ids"
text_of fault.NoPendingRun = codes "no pending run"
text_of fault.BadMessage = codes "BadMessage"
text_of fault.BadEagerStateKey = codes "BadEagerStateKeyError"
text_of fault.KnownEntriesIsZero = codes "KNOWN_ENTRIES_IS_ZERO"
text_of fault.UnexpectedEntryMessage = codes "UNEXPECTED_ENTRY_MESSAGE"
text_of fault.UnexpectedState = codes "UnexpectedStateError"
text_of fault.UnexpectedInputMessage = codes "UNEXPECTED_INPUT_MESSAGE"
text_of fault.InputClosedWhileWaitingEntries = codes "INPUT_CLOSED_WHILE_WAITING_ENTRIES"
text_of fault.UnavailableEntry = codes "UnavailableEntryError"
text_of fault.EmptyGetEagerState = codes "EMPTY_GET_EAGER_STATE"
text_of fault.EmptyGetEagerStateKeys = codes "EMPTY_GET_EAGER_STATE_KEYS"
text_of fault.BadProposeRunCompletionAck = codes "BadProposeRunCompletionAck"
text_of fault.InputClosedWhileWaitingEphemeralNotifications =
    codes "INPUT_CLOSED_WHILE_WAITING_EPHEMERAL_NOTIFICATIONS"
text_of fault.EphemeralCommandDuringReplay = codes "EPHEMERAL_COMMAND_DURING_REPLAY"
text_of fault.EphemeralStateGetWithClosedInput = codes "EphemeralStateGetWithClosedInput"
text_of fault.EmptyGetStateEphemeralNotification = codes "EMPTY_GET_STATE_EPHEMERAL_NOTIFICATION"
text_of fault.UnexpectedInvocationIdResult = codes "unexpected result for an invocation id"
text_of fault.StateKeyIsNotUtf8 = codes "state key is not UTF-8"
