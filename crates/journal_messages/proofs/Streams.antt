-- A stream is its messages and no others.
use Rattle.std.proofs.Common.{◌≡◌, ℕ, ◌<◌, ◌^◌, List, [], ◌∷◌, ◌++◌, length, refl, sym, ap, ◌∙◌, subst, append_assoc, arith, Some, None, Err, take, drop}
use Rattle.std.specs.List.{flat_map, AllByRecursion}
use Rattle.std.proofs.lemmas.List.{append-nil, length-append, take-append-drop}
use Rattle.std.proofs.lemmas.List.Concat.{flat_map-cons, flat_map-append}
use Rattle.wire.specs.Format.{u16s, bytes}
use Rattle.wire.specs.Forms.{u16_format, bytes_format}
use Rattle.wire.specs.Fault.{Fault}
use Rattle.wire.specs.Fault.TheVariants.{Memory, Malformed}
use Rattle.wire.proofs.Read.{one_form}
use Rattle.journal_errors.specs.Types.{type_number, type_at}
use Rattle.journal_errors.specs.declared.types.MessageType.{MessageType}
use Rattle.journal_messages.specs.declared.message.Message.{Message}
use Rattle.journal_messages.specs.Message.{frame, encoding, body, type_of, IsValid, DecodesTo, IsWhole}
use Rattle.journal_messages.specs.Stream.{IsPart, IsMalformed, Next}
use Rattle.journal_messages.specs.Runs.{Splits, IsRefused}
use Rattle.journal_messages.proofs.Numbers.{small_number, one_number, type_found}
use Rattle.journal_messages.proofs.Reading.{one_message}

split : (m : Message) (ms : List Message) (r : List ℕ) → flat_map encoding (m ∷ ms) ++ r ≡ u16s (type_number (type_of m)) ++ (bytes (body m) ++ (flat_map encoding ms ++ r))
split m ms r = ap (λ t. t ++ r) (flat_map-cons encoding m ms) ∙ append_assoc (encoding m) (flat_map encoding ms) r ∙ append_assoc (u16s (type_number (type_of m))) (bytes (body m)) (flat_map encoding ms ++ r)

no_more : (m : Message) (ms : List Message) (r rest : List ℕ) → IsWhole m → IsPart rest → rest ≡ flat_map encoding (m ∷ ms) ++ r → ⊥
no_more m ms r rest v p e = p.no_frame (type_of m) (body m) (flat_map encoding ms ++ r) v.1
    (e ∙ ap (λ t. t ++ r) (flat_map-cons encoding m ms) ∙ append_assoc (encoding m) (flat_map encoding ms) r)

pub one_stream : (ms ns : List Message) (q r : List ℕ) → AllByRecursion IsWhole ms → AllByRecursion IsWhole ns → IsPart q → IsPart r → flat_map encoding ms ++ q ≡ flat_map encoding ns ++ r → ms ≡ ns
one_stream [] [] q r v w p s e = refl
one_stream [] (n ∷ ns) q r v w p s e = absurd (no_more n ns r q w.0 p e)
one_stream (m ∷ ms) [] q r v w p s e = absurd (no_more m ms q r v.0 s (sym e))
one_stream (m ∷ ms) (n ∷ ns) q r v w p s e =
    let a = one_form u16_format (type_number (type_of m)) (type_number (type_of n)) (bytes (body m) ++ (flat_map encoding ms ++ q)) (bytes (body n) ++ (flat_map encoding ns ++ r)) (small_number (type_of m)) (small_number (type_of n)) (sym (split m ms q) ∙ e ∙ split n ns r) in
    let b = one_form bytes_format (body m) (body n) (flat_map encoding ms ++ q) (flat_map encoding ns ++ r) v.0.1 w.0.1 a.1 in
    let h = one_message m n (one_number (type_of m) (type_of n) a.0) v.0.0 w.0.0 b.0 in
    let k = one_stream ms ns q r v.1 w.1 p s b.1 in
    λ i. h i ∷ k i

-- ---- a stream that is no messages

-- no rest that is only a part of a frame, and no message at the front
pub record IsBad (bs : List ℕ) : Type 0 where
  pub no_part : IsPart bs → ⊥
  pub no_message : (m : Message) (rest : List ℕ) → IsWhole m → bs ≡ encoding m ++ rest → ⊥

pub no_split : (ms ns : List Message) (q r : List ℕ) → AllByRecursion IsWhole ms → AllByRecursion IsWhole ns → IsBad q → IsPart r → flat_map encoding ms ++ q ≡ flat_map encoding ns ++ r → ⊥
no_split [] [] q r v w b p e = b.no_part (subst IsPart (sym e) p)
no_split [] (n ∷ ns) q r v w b p e = b.no_message n (flat_map encoding ns ++ r) w.0
    (e ∙ ap (λ t. t ++ r) (flat_map-cons encoding n ns) ∙ append_assoc (encoding n) (flat_map encoding ns) r)
no_split (m ∷ ms) [] q r v w b p e = no_more m ms q r v.0 p (sym e)
no_split (m ∷ ms) (n ∷ ns) q r v w b p e =
    let a = one_form u16_format (type_number (type_of m)) (type_number (type_of n)) (bytes (body m) ++ (flat_map encoding ms ++ q)) (bytes (body n) ++ (flat_map encoding ns ++ r)) (small_number (type_of m)) (small_number (type_of n)) (sym (split m ms q) ∙ e ∙ split n ns r) in
    let t = one_form bytes_format (body m) (body n) (flat_map encoding ms ++ q) (flat_map encoding ns ++ r) v.0.1 w.0.1 a.1 in
    no_split ms ns q r v.1 w.1 b p t.1

front : (m : Message) (rest : List ℕ) → encoding m ++ rest ≡ u16s (type_number (type_of m)) ++ (bytes (body m) ++ rest)
front m rest = append_assoc (u16s (type_number (type_of m))) (bytes (body m)) rest

none_some : (ty : MessageType) → None ≡ Some ty → ⊥
none_some ty e = cc

-- bytes that begin with a number that is no type's
pub bad_number : (bs more : List ℕ) → IsMalformed bs → IsBad (bs ++ more)
bad_number bs more h =
    let all : IsMalformed (bs ++ more) = (h.0, h.1 ++ more, h.2, h.3, ap (λ t. t ++ more) h.4 ∙ append_assoc (u16s h.0) h.1 more) in
    record {
      no_part = λ p. p.well_formed all;
      no_message = λ m rest w e.
          let a = one_form u16_format h.0 (type_number (type_of m)) (h.1 ++ more) (bytes (body m) ++ rest) h.2 (small_number (type_of m)) (sym all.4 ∙ e ∙ front m rest) in
          none_some (type_of m) (sym h.3 ∙ ap type_at a.0 ∙ type_found (type_of m));
    }

-- a frame whose body no message of its type has
pub bad_body : (bs next more : List ℕ) (ty : MessageType) (b : List ℕ) → length b < 2 ^ 64 → bs ≡ frame ty b ++ next → ((m : Message) → IsValid m → type_of m ≡ ty → b ≡ body m → ⊥) → IsBad (bs ++ more)
bad_body bs next more ty b l e none =
    let all : bs ++ more ≡ frame ty b ++ (next ++ more) = ap (λ t. t ++ more) e ∙ append_assoc (frame ty b) next more in
    record {
      no_part = λ p. p.no_frame ty b (next ++ more) l all;
      no_message = λ m rest w f.
          let a = one_form u16_format (type_number ty) (type_number (type_of m)) (bytes b ++ (next ++ more)) (bytes (body m) ++ rest) (small_number ty) (small_number (type_of m)) (sym (append_assoc (u16s (type_number ty)) (bytes b) (next ++ more)) ∙ sym all ∙ f ∙ front m rest) in
          let t = one_form bytes_format b (body m) (next ++ more) rest l w.1 a.1 in
          none m w.0 (sym (one_number ty (type_of m) a.0)) t.0;
    }

-- what was read of a stream so far
pub record Read (stream : List ℕ) (messages : List Message) (rest : List ℕ) : Type 0 where
  pub whole : stream ≡ flat_map encoding messages ++ rest
  pub each : AllByRecursion IsWhole messages

each_push : (ms : List Message) (m : Message) → AllByRecursion IsWhole ms → IsWhole m → AllByRecursion IsWhole (ms ++ m ∷ [])
each_push [] m h p = (p, tt)
each_push (n ∷ ms) m h p = (h.0, each_push ms m h.1 p)

pub read_more : (stream : List ℕ) (ms : List Message) (m : Message) (ty : MessageType) (b rest next : List ℕ) → Read stream ms rest → length b < 2 ^ 64 → rest ≡ frame ty b ++ next → IsValid m → type_of m ≡ ty → b ≡ body m → Read stream (ms ++ m ∷ []) next
read_more stream ms m ty b rest next h f e v n o = record {
  whole = h.whole ∙ ap (λ t. flat_map encoding ms ++ t) (e ∙ ap (λ t. frame t b ++ next) (sym n) ∙ ap (λ t. frame (type_of m) t ++ next) o) ∙ sym (append_assoc (flat_map encoding ms) (encoding m) next)
      ∙ ap (λ t. t ++ next) (sym (flat_map-append encoding ms (m ∷ []) ∙ ap (λ t. flat_map encoding ms ++ t) (flat_map-cons encoding m [] ∙ append-nil (encoding m))));
  each = each_push ms m h.each (v, subst (λ t. length t < 2 ^ 64) o f);
}

pub read_piece : (stream piece : List ℕ) (ms : List Message) (rest : List ℕ) → Read stream ms rest → Read (stream ++ piece) ms (rest ++ piece)
read_piece stream piece ms rest h = record { whole = ap (λ t. t ++ piece) h.whole ∙ append_assoc (flat_map encoding ms) rest piece; each = h.each }

-- a stream is no messages if some of its pieces end in a bad rest
pub refused : (stream more whole : List ℕ) (ms : List Message) (rest : List ℕ) → Read stream ms rest → IsBad (rest ++ more) → stream ++ more ≡ whole → (messages : List Message) (left : List ℕ) → Splits whole messages left → ⊥
refused stream more whole ms rest h b e messages left s =
    no_split ms messages (rest ++ more) left h.each s.each b s.partial
    (sym (append_assoc (flat_map encoding ms) rest more) ∙ ap (λ t. t ++ more) (sym h.whole) ∙ e ∙ s.whole)

pub refused_frame : (stream more whole : List ℕ) (ms : List Message) (rest new : List ℕ) (why : Fault) → Read stream ms rest → stream ++ more ≡ whole → Next rest (Err why) new → IsRefused whole why
refused_frame stream more whole ms rest new Memory h e n = tt
refused_frame stream more whole ms rest new Malformed h e n = refused stream more whole ms rest h (bad_number rest more n.1) e

pub refused_body : (stream more whole : List ℕ) (ms : List Message) (rest next : List ℕ) (ty : MessageType) (b : List ℕ) (why : Fault) → Read stream ms rest → stream ++ more ≡ whole → length b < 2 ^ 64 → rest ≡ frame ty b ++ next → DecodesTo ty b (Err why) → IsRefused whole why
refused_body stream more whole ms rest next ty b Memory h e l f d = tt
refused_body stream more whole ms rest next ty b Malformed h e l f d = refused stream more whole ms rest h (bad_body rest next more ty b l f d) e

pub all_pieces : (i : ℕ) (pieces : List (List ℕ)) → flat_map (λ piece. piece) (take i pieces) ++ flat_map (λ piece. piece) (drop i pieces) ≡ flat_map (λ piece. piece) pieces
all_pieces i pieces = sym (flat_map-append (λ piece. piece) (take i pieces) (drop i pieces)) ∙ ap (flat_map (λ piece. piece)) (take-append-drop i pieces)

pub frame_long : (ty : MessageType) (b next rest : List ℕ) → rest ≡ frame ty b ++ next → length next < length rest
unfolding u16s
frame_long ty b next rest e = omega (arith, ap length e, length-append (frame ty b) next, length-append (u16s (type_number ty)) (bytes b))
