-- Messages as frames, and the first frame of some bytes. How a frame is laid out is not passed on.
pub use Rattle.journal_messages.specs.Message.{IsWhole, body, encoding, frame, frame_size, numbered_frame, type_of}
pub use Rattle.journal_messages.specs.Frames.{NextFrame, Whole, Partial, Malformed, next_of}
pub use Rattle.journal_messages.specs.Stream.{NextIs}
