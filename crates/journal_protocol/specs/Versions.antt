-- The versions, by what a request's header says.
unfoldable pub use Rattle.journal_messages.specs.Versions.{content_type, version_of}
pub use Rattle.journal_messages.specs.Versions.{is_from_v6, is_from_v7}
