-- The messages that a journal records as commands.
pub use Rattle.journal_messages.specs.Commands.{IsCommand, is_command}
