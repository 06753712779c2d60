use Rattle.std.proofs.Common.{◌≡◌, ◌+◌, ◌<◌, true, false, length, map, [], ◌∷◌, ◌++◌, sym, ap, subst, ◌∙◌, arith}
use Rattle.std.specs.Prelude.{IfSome}
use Rattle.std.specs.List.{range_with_len}
use Rattle.std.proofs.lemmas.List.Elements.{All-same}
use Rattle.wt_quotes.specs.Runs.{bytes_of}
use Rattle.wt_quotes.specs.Styles.{Fits}
use Rattle.wt_quotes.specs.Turns.{toggles_at, flipped, turn_at, turns_of}
use Rattle.wt_quotes.proofs.Fitting.{turns_fit}
use Rattle.wt_quotes.proofs.Places.{map-range_more}
use Rattle.wt_quotes.proofs.Since.{since_more, since_none, flipped_within, within_more, turn_is}
use Rattle.wt_quotes.proofs.turn.turns.Goals as goal

pub loop-at-init : goal.loop-at-init
loop-at-init c = record {
  bold = since_none true c.args.toggles.now;
  italic = since_none false c.args.toggles.now;
  within =
      tt;
  turns = c.new-turns.ensures.items;
}

pub turn_of-requires-clause-within : goal.turn_of-requires-clause-within
turn_of-requires-clause-within c = within_more c.loop-at.at (length c.args.toggles.now) c.loop-at.opened.bold c.loop-at-test.true c.loop-at.invariant.within

pub loop-at-preserved : goal.loop-at-preserved
loop-at-preserved c =
    let ts = c.args.toggles.now in
    let i = c.loop-at.at in
    let had = c.loop-at.invariant in
    let after = c.opened_after-opened.ensures in
    let is = turn_is c.args.chunks.now ts i c.start_of-start.result c.loop-at.opened _ c.loop-at-test.true c.start_of-start.ensures had.bold had.italic in
    record {
      bold = after.bold ∙ ap (flipped (toggles_at true ts i) i) had.bold ∙ sym (since_more true ts i c.loop-at-test.true);
      italic = after.italic ∙ ap (flipped (toggles_at false ts i) i) had.italic ∙ sym (since_more false ts i c.loop-at-test.true);
      within = subst (λ o. IfSome o (λ a. a < i + 1)) (sym after.bold) (flipped_within (toggles_at true ts i) i c.loop-at.opened.bold had.within);
      turns = c.in_ok-push.ensures.items ∙ ap (λ xs. xs ++ c.turn_of.result ∷ []) had.turns
          ∙ ap (λ t. map (turn_at c.args.chunks.now ts) (range_with_len 0 i) ++ t ∷ []) (c.turn_of.ensures ∙ is)
          ∙ sym (map-range_more (turn_at c.args.chunks.now ts) i);
    }

pub returns-clause-value : goal.returns-clause-value
returns-clause-value c =
    let all : c.loop-at.at ≡ length c.args.toggles.now = omega arith in
    c.loop-at.invariant.turns ∙ ap (λ n. map (turn_at c.args.chunks.now c.args.toggles.now) (range_with_len 0 n)) all

pub returns-clause-fit : goal.returns-clause-fit
returns-clause-fit c =
    let all : c.loop-at.at ≡ length c.args.toggles.now = omega arith in
    All-same (Fits (bytes_of c.args.chunks.now)) c.loop-at.turns.items (turns_of c.args.chunks.now c.args.toggles.now)
    (c.loop-at.invariant.turns ∙ ap (λ n. map (turn_at c.args.chunks.now c.args.toggles.now) (range_with_len 0 n)) all)
    (turns_fit c.args.chunks.now c.args.toggles.now c.requires.runs)
