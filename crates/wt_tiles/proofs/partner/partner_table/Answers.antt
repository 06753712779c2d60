use Rattle.std.proofs.Common.{◌≡◌, ◌+◌, ◌-◌, List, length, drop, sym, ap, ◌∙◌, arith, subst, drop-drop}
use Rattle.wt_tiles.specs.declared.glyph.Glyph.{Glyph}
use Rattle.wt_tiles.specs.Tables.{own_partner, AreNearest}
use Rattle.wt_tiles.proofs.Pairs.{push_next, push_size}
use Rattle.wt_tiles.proofs.partner.partner_table.Goals as goal

pub pass-entry-requires-clause-behind : goal.pass-entry-requires-clause-behind
pass-entry-requires-clause-behind c =
    let gs = c.args.glyphs.now in
    let left = c.loop-left.left in
    let z : length gs - left - 1 + 1 ≡ length gs - left = omega (arith, c.loop-left-test.true) in
    let there : drop 1 c.rest_of-rest.result.now ≡ drop (length gs - left) gs =
    ap (λ (hs : List Glyph). drop 1 hs) c.rest_of-rest.ensures ∙ drop-drop 1 (length gs - left - 1) gs ∙ ap (λ m. drop m gs) z in
    let P : List Glyph → Type 0 = λ hs. AreNearest hs c.loop-left.nearest in
    subst P (sym there) c.loop-left.invariant.behind

pub loop-left-preserved : goal.loop-left-preserved
loop-left-preserved c =
    let gs = c.args.glyphs.now in
    let left = c.loop-left.left in
    let z : length gs - left - 1 ≡ length gs - (left + 1) = omega arith in
    let rest : c.rest_of-rest.result.now ≡ drop (length gs - (left + 1)) gs = c.rest_of-rest.ensures ∙ ap (λ m. drop m gs) z in
    let P : List Glyph → Type 0 = λ hs. AreNearest hs c.pass-entry.new.nearest in
    record {
      size = omega (arith, push_size c.loop-left.table c.push-in-loop-left.new.self c.pass-entry.result c.in_ok-push-2.ensures.ok, c.loop-left.invariant.size);
      known = push_next gs c.loop-left.table c.push-in-loop-left.new.self left c.pass-entry.result c.loop-left.invariant.size
          c.loop-left.invariant.known c.in_ok-push-2.ensures.ok (c.pass-entry.ensures.value ∙ ap own_partner rest);
      behind = subst P rest c.pass-entry.ensures.after;
    }
