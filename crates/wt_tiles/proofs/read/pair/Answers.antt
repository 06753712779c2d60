use Rattle.std.proofs.Common.{◌≡◌, ◌<◌, ℕ, true, Option, Some, List, nat_lt, sym, ap, ◌∙◌, arith, subst}
use Rattle.std.proofs.lemmas.Bool.Decides.{nat_tests}
use Rattle.wt_tiles.specs.declared.glyph.Glyph.{Glyph}
use Rattle.wt_tiles.specs.declared.tag.Tag.{Tag}
use Rattle.wt_tiles.specs.Tags.{tag_at}
use Rattle.wt_tiles.specs.Tables.{own_partner, pair_left}
use Rattle.wt_tiles.proofs.TagFits.{TagFits, OptTag, tag_fits}
use Rattle.wt_tiles.proofs.Steps.{if_some}
use Rattle.wt_tiles.proofs.TagInsides.{pair_is, closing_within}
use Rattle.wt_tiles.proofs.read.pair.Goals as goal

fits : (gs : List Glyph) (t : Tag) → tag_at gs ≡ Some t → TagFits gs t
fits gs t e = let P : Option Tag → Type 0 = λ o. OptTag gs o in subst P e (tag_fits gs)

few : (n : ℕ) → n < 16 → nat_lt n 16 ≡ true
few n h = grind (arith, nat_tests)

pub pair_left-requires : goal.pair_left-requires
pair_left-requires c =
    let gs = c.args.rest.now in
    let f = fits gs c.args.tag c.requires.tag in
    let own = c.in_ok-closing.ensures.value ∙ ap own_partner (sym c.requires.end) in
    if_some c.in_ok-closing.closing _ (λ left is. closing_within gs c.args.tag c.args.name left
    (omega (arith, f.within, f.some)) c.requires.tag c.requires.name c.requires.shape f.within (sym own ∙ is))

pub returns-clause-value : goal.returns-clause-value
returns-clause-value c =
    let gs = c.args.rest.now in
    let f = fits gs c.args.tag c.requires.tag in
    let own = c.in_ok-closing.ensures.value ∙ ap own_partner (sym c.requires.end) in
    c.pair_left.ensures ∙ ap (λ (o : Option ℕ). pair_left c.args.tag.len o gs) own
    ∙ pair_is c.args.pairs gs c.args.tag c.args.name (few c.args.pairs c.if-pairs-ge-MOST_PAIRS.false)
    (omega (arith, f.within, f.some)) c.requires.tag c.requires.name c.requires.shape f.within
