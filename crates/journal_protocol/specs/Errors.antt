-- Errors, and the message of one.
pub use Rattle.journal_messages.specs.Errors.{error_message, fault_error, named_error, no_memory}
