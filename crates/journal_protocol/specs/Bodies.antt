-- The message whose body some bytes are. What it takes to read one is not passed on.
unfoldable pub use Rattle.journal_messages.specs.Reading.{message_in}
pub use Rattle.journal_messages.specs.Reading.{acknowledgement_in, ephemeral_notification_in, input_in, notification_in, proposal_in, start_in}
-- What reading answers: the value, or a fault.
pub use Rattle.journal_messages.specs.Reads.{Read}
