-- The laws of the layer, as proofs above cite them. Each is a clause of a public function in src/laws.rt.
pub use Rattle.journal_messages.proofs.Framing.{frame_sized, frame_there}
pub use Rattle.journal_messages.proofs.Alone.{acknowledgement_back, framed, input_back, notification_back, one_body, one_type, proposal_back, read_back, start_back, nothing_is_partial}
pub use Rattle.journal_messages.proofs.Cuts.{whole_spelled, whole_more, malformed_more, whole_shorter}
pub use Rattle.journal_messages.proofs.Numbers.{one_number, small_number, type_found}
pub use Rattle.journal_messages.proofs.Streams.{frame_long}
pub use Rattle.journal_messages.proofs.SameHeader.{same_header}
pub use Rattle.journal_messages.proofs.Own.{result_said, value_said}
pub use Rattle.journal_messages.proofs.Typed.{type_read}
