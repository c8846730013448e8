use Rattle.std.proofs.Common.{ap, sym, ◌∙◌, drop, take, length, ◌+◌, arith, subst, IsUtf8, is_some, chars, length-append}
use Rattle.std.proofs.lemmas.Str.{utf8_valid_len_le}
use Rattle.std.specs.Str.Lossy.{utf8_valid_len, utf8_error_len}
use Rattle.utf8_text.specs.Places.{start, place_after}
use Rattle.utf8_text.proofs.Fed.{grown, fed_broken, fed_whole, fed_front}
use Rattle.utf8_text.proofs.pieces.take_piece.Goals as goal

pub behind-requires : goal.behind-requires
behind-requires c =
    let all = ap length (c.as_slice.ensures.value ∙ c.in_ok-extend_from_slice.ensures.items) in
    omega (
      arith,
      all,
      length-append c.args.bytes.now.items c.args.piece.now,
      c.requires,
      utf8_valid_len_le c.args.bytes.now.items,
    )

pub text_end-place-requires : goal.text_end-place-requires
text_end-place-requires c =
    let rest = c.behind.ensures ∙ ap (drop c.args.whole) c.as_slice.ensures.value in
    subst IsUtf8 (sym (c.front.ensures
    ∙ ap (take (c.args.whole + c.text_front-size.result.0)) c.as_slice-then-broken.ensures.value))
    (fed_front c.extend_from_slice.new.self.items (c.args.whole + c.text_front-size.result.0)
    (grown c.args.bytes.now.items c.args.piece.now c.extend_from_slice.new.self.items c.args.whole
    c.text_front-size.result.0 c.requires c.in_ok-extend_from_slice.ensures.items
    (c.text_front-size.ensures.len ∙ ap utf8_valid_len rest)))

pub returns-then-broken-clause-fed : goal.returns-then-broken-clause-fed
returns-then-broken-clause-fed c =
    let rest = c.behind.ensures ∙ ap (drop c.args.whole) c.as_slice.ensures.value in
    fed_broken c.args.bytes.now.items c.args.piece.now c.extend_from_slice.new.self.items c.args.whole
    c.text_front-size.result.0 c.text_front-size.result.1 c.text_end-place.result
    c.requires c.in_ok-extend_from_slice.ensures.items
    (c.text_front-size.ensures.len ∙ ap utf8_valid_len rest)
    (c.text_front-size.ensures.broken ∙ ap (λ xs. is_some (utf8_error_len (drop c.text_front-size.result.0 xs))) rest)
    c.if-broken.true
    (c.text_end-place.ensures
    ∙ ap (λ xs. place_after (chars xs) start)
    (c.front.ensures ∙ ap (take (c.args.whole + c.text_front-size.result.0)) c.as_slice-then-broken.ensures.value))

pub returns-else-broken-clause-fed : goal.returns-else-broken-clause-fed
returns-else-broken-clause-fed c =
    let rest = c.behind.ensures ∙ ap (drop c.args.whole) c.as_slice.ensures.value in
    fed_whole c.args.bytes.now.items c.args.piece.now c.extend_from_slice.new.self.items c.args.whole
    c.text_front-size.result.0 c.text_front-size.result.1
    c.requires c.in_ok-extend_from_slice.ensures.items
    (c.text_front-size.ensures.len ∙ ap utf8_valid_len rest)
    (c.text_front-size.ensures.broken ∙ ap (λ xs. is_some (utf8_error_len (drop c.text_front-size.result.0 xs))) rest)
    c.if-broken.false
