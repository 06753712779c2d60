use Rattle.std.proofs.Common.{◌<◌, ◌+◌, ◌-◌, ℕ, List, length, sym, ◌∙◌, arith, subst}
use Rattle.wt_tiles.specs.declared.shape.Shape.{Shape}
use Rattle.wt_tiles.proofs.Cuts.{IsDone, all_left, char_more, form_more}
use Rattle.wt_tiles.proofs.Steps.{fits_at}
use Rattle.wt_tiles.proofs.read.shapes.Goals as goal

pub loop-at-init : goal.loop-at-init
loop-at-init c =
    let P : List Shape → Type 0 = λ ws. IsDone c.args.context c.args.glyphs.now ws 0 0 in
    record {
      order = omega arith;
      within = omega arith;
      known = c.new-known.ensures;
      done = subst P (sym c.new-out.ensures) (all_left c.args.context c.args.glyphs.now);
    }

pub loop-at-preserved-in_default : goal.loop-at-preserved-in_default
loop-at-preserved-in_default c =
    let before = c.loop-at.invariant in
    record {
      order = omega (arith, before.order);
      within = omega (arith, c.loop-at-test.true);
      known = c.in_ok-shape.ensures.kept ∙ before.known;
      done = char_more c.args.context c.args.glyphs.now c.loop-at.from c.loop-at.at c.loop-at.out c.loop-at-test.true before.order
          (sym c.in_ok-shape.ensures.value ∙ c.in_default.is) before.done;
    }

pub len-at-requires : goal.len-at-requires
len-at-requires c =
    let f = fits_at c.args.context _ c.args.glyphs.now c.loop-at.at c.in-Some.shape c.loop-at-test.true (sym c.in_ok-shape.ensures.value ∙ c.in-Some.is) in
    omega (arith, f.within)

pub overflow_add-at-in-loop-at : goal.overflow_add-at-in-loop-at
overflow_add-at-in-loop-at c =
    let f = fits_at c.args.context _ c.args.glyphs.now c.loop-at.at c.in-Some.shape c.loop-at-test.true (sym c.in_ok-shape.ensures.value ∙ c.in-Some.is) in
    omega (arith, f.within, c.len-at.ensures)

pub loop-at-smaller : goal.loop-at-smaller
loop-at-smaller c =
    let f = fits_at c.args.context _ c.args.glyphs.now c.loop-at.at c.in-Some.shape c.loop-at-test.true (sym c.in_ok-shape.ensures.value ∙ c.in-Some.is) in
    let less : length c.args.glyphs.now - (c.loop-at.at + c.len-at.result) < length c.args.glyphs.now - c.loop-at.at =
    omega (arith, f.within, f.some, c.len-at.ensures) in
    less

pub loop-at-preserved : goal.loop-at-preserved
loop-at-preserved c =
    let gs = c.args.glyphs.now in
    let before = c.loop-at.invariant in
    let is = sym c.in_ok-shape.ensures.value ∙ c.in-Some.is in
    let f = fits_at c.args.context _ gs c.loop-at.at c.in-Some.shape c.loop-at-test.true is in
    let P : ℕ → Type 0 = λ n. IsDone c.args.context gs c.push.new.self (c.loop-at.at + n) (c.loop-at.at + n) in
    record {
      order = omega arith;
      within = omega (arith, f.within, c.len-at.ensures);
      known = c.in_ok-shape.ensures.kept ∙ before.known;
      done = subst P (sym c.len-at.ensures) (form_more c.args.context gs c.loop-at.out c.push_chars.new.out c.push.new.self
          c.loop-at.from c.loop-at.at c.in-Some.shape c.loop-at-test.true f.some is c.in_ok-push_chars.ensures
          c.in_ok-push.ensures.ok before.done);
    }
