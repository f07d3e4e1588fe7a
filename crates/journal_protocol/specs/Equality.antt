-- Replay's comparison of messages.
unfoldable pub use Rattle.journal_messages.specs.HeaderEqual.{header_equal}
pub use Rattle.journal_messages.specs.HeaderEqual.{request_equal}
