use Rattle.std.proofs.Common.{◌≡◌, ◌+◌, ◌++◌, drop, length, length-drop, map, sym, ap, ◌∙◌, arith, refl, subst, List, [], Some, None}
use Rattle.std.specs.List.{All}
use Rattle.std.specs.Str.{IsCharBoundary}
use Rattle.std.proofs.lemmas.List.Elements.{All-nil}
use Rattle.std.proofs.lemmas.Str.{IsCharBoundary-start, IsCharBoundary-end}
use Rattle.wt_span.specs.Lexemes.{closed, form_at}
use Rattle.wt_lex.specs.Places.{word_of, AtBorders}
use Rattle.wt_lex.specs.Words.{after_break}
use Rattle.wt_lex.proofs.Borders.{border_before, border_after}
use Rattle.wt_lex.proofs.Cuts.{left, char_more, form_more, all_left}
use Rattle.wt_lex.proofs.AllForms.{form_fits}
use Rattle.wt_lex.proofs.Forms.{begins_low}
use Rattle.wt_lex.proofs.Passing.{passed}
use Rattle.wt_lex.proofs.scan.lex.Goals as goal

pub loop-at-init : goal.loop-at-init
loop-at-init c =
    let text = c.args.text.now in
    let rest = left c.args.mode text 0 in
    let none : map word_of c.new-lexemes.result ≡ [] = ap (map word_of) c.new-lexemes.ensures in
    let P : List _ → Type 0 = All (AtBorders text) in
    record {
      order = omega arith;
      within = omega arith;
      known = c.new-closings.ensures ∙ c.as_bytes-bytes.ensures.value;
      border = IsCharBoundary-start text c.utf8.text;
      borders = subst P (sym c.new-lexemes.ensures) (All-nil (AtBorders text));
      follow = rw c.new-lexemes.ensures refl;
      done = passed c.args.mode text c.as_bytes-bytes.result.now (map word_of c.new-lexemes.result) 0 0 c.next_place-at.result
          c.as_bytes-bytes.ensures.value (omega arith) c.next_place-at.ensures.order c.next_place-at.ensures.within
          c.next_place-at.ensures.none
          (ap (λ ws. ws ++ closed (0 + rest.0) rest.1) none ∙ all_left c.args.mode text);
    }

pub loop-at-preserved : goal.loop-at-preserved
loop-at-preserved c =
    let text = c.args.text.now in
    let before = c.loop-at.invariant in
    let is : form_at c.args.mode (after_break text c.loop-at.at) (drop c.loop-at.at text) ≡ Some (c.in-Some.kind, c.in-Some.len) =
    ap (λ t. form_at c.args.mode (after_break t c.loop-at.at) (drop c.loop-at.at t)) (sym before.known) ∙ sym c.in_ok-kind.ensures.value ∙ c.in-Some.is in
    let f = form_fits c.args.mode (after_break text c.loop-at.at) (drop c.loop-at.at text) (c.in-Some.kind, c.in-Some.len) is in
    let start = border_before text c.loop-at.at (omega arith) (begins_low (after_break text c.loop-at.at) _ f.begins) in
    let end = border_after text c.loop-at.at c.in-Some.len c.utf8.text (omega arith) f.some f.within f.ends in
    record {
      order = omega arith;
      within = omega (arith, f.within, length-drop c.loop-at.at text);
      known = c.in_ok-kind.ensures.kept ∙ before.known;
      border = end;
      borders = c.in_ok-push_form.ensures.borders text start end (c.in_ok-push_chars.ensures.borders text before.border start before.borders);
      follow = c.in_ok-push_form.ensures.follow (c.in_ok-push_chars.ensures.follow before.follow);
      done = passed c.args.mode text c.as_bytes-bytes.result.now (map word_of c.push_form.new.lexemes)
          (c.loop-at.at + c.in-Some.len) (c.loop-at.at + c.in-Some.len) c.next_place-at-in-loop-at.result
          c.as_bytes-bytes.ensures.value (omega arith) c.next_place-at-in-loop-at.ensures.order
          c.next_place-at-in-loop-at.ensures.within c.next_place-at-in-loop-at.ensures.none
          (form_more c.args.mode text (map word_of c.loop-at.lexemes) (map word_of c.push_chars.new.lexemes)
          (map word_of c.push_form.new.lexemes) c.loop-at.from c.loop-at.at
          (c.in-Some.kind, c.in-Some.len) (omega arith) f.some is c.in_ok-push_chars.ensures.words c.in_ok-push_form.ensures.words before.done);
    }

pub loop-at-preserved-in_default : goal.loop-at-preserved-in_default
loop-at-preserved-in_default c =
    let text = c.args.text.now in
    let before = c.loop-at.invariant in
    let is : form_at c.args.mode (after_break text c.loop-at.at) (drop c.loop-at.at text) ≡ None =
    ap (λ t. form_at c.args.mode (after_break t c.loop-at.at) (drop c.loop-at.at t)) (sym before.known) ∙ sym c.in_ok-kind.ensures.value ∙ c.in_default.is in
    let next = c.next_place-at-in_default in
    record {
      order = omega (arith, next.ensures.order);
      within = omega (arith, next.ensures.within, ap length c.as_bytes-bytes.ensures.value);
      known = c.in_ok-kind.ensures.kept ∙ before.known;
      border = before.border;
      borders = before.borders;
      follow = before.follow;
      done = passed c.args.mode text c.as_bytes-bytes.result.now (map word_of c.loop-at.lexemes) c.loop-at.from
          (c.loop-at.at + 1) next.result c.as_bytes-bytes.ensures.value (omega arith) next.ensures.order next.ensures.within
          next.ensures.none
          (char_more c.args.mode text c.loop-at.from c.loop-at.at (map word_of c.loop-at.lexemes) (omega arith) before.order is before.done);
    }

pub returns-clause-borders : goal.returns-clause-borders
returns-clause-borders c =
    let text = c.args.text.now in
    let there : length text ≡ c.loop-at.at = omega arith in
    let end = subst (IsCharBoundary text) there (IsCharBoundary-end text) in
    c.in_ok-push_chars-2.ensures.borders text c.loop-at.invariant.border end c.loop-at.invariant.borders
