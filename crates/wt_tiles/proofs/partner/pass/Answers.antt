use Rattle.std.proofs.Common.{◌≡◌, ℕ, ◌<◌, Option, List, Some, None, length, drop, sym, ap, ◌∙◌, arith, length-drop}
use Rattle.std.specs.Prelude.{slice_index_or}
use Rattle.std.proofs.lemmas.Option.{get_or_from_slice_get}
use Rattle.wt_span.specs.declared.tag_name.TagName.{TagName}
use Rattle.wt_tiles.specs.declared.glyph.Glyph.{Glyph}
use Rattle.wt_tiles.specs.declared.tag.Name.TheVariants.{Paired}
use Rattle.wt_tiles.specs.Tags.{tag_at}
use Rattle.wt_tiles.specs.Partners.{number}
use Rattle.wt_tiles.specs.Tables.{nearest, nearest_by, AreNearest}
use Rattle.wt_tiles.proofs.Pairs.{nearest_within, own_next, other_next, set_next}
use Rattle.wt_tiles.proofs.partner.pass.Goals as goal

known_is : (gs : List Glyph) (old : List (Option ℕ)) (i : ℕ) (m : TagName) → i ≡ number m → i < 7 → AreNearest (drop 1 gs) old
    → slice_index_or old i None ≡ nearest (number m) (drop 1 gs)
known_is gs old i m e within a = get_or_from_slice_get old i (nearest i (drop 1 gs)) None (a.known i within) ∙ ap (λ k. nearest k (drop 1 gs)) e

pub nearest_by-requires : goal.nearest_by-requires
nearest_by-requires c = λ q e.
    let gs = c.args.glyphs.now in
    let is = known_is gs c.args.nearest.now c.number-at.result c.in-Paired.name c.number-at.ensures.value c.number-at.ensures.within c.requires.behind in
    omega (arith, nearest_within (number c.in-Paired.name) (drop 1 gs) q (sym is ∙ e), length-drop 1 gs, c.requires.some, c.requires.size)

pub returns-clause-after : goal.returns-clause-after
returns-clause-after c =
    let gs = c.args.glyphs.now in
    let m = c.in-Paired.name in
    let i = c.number-at.result in
    let t = c.in-Some.tag in
    let is = known_is gs c.args.nearest.now i m c.number-at.ensures.value c.number-at.ensures.within c.requires.behind in
    let e : tag_at gs ≡ Some t = sym c.in-Some.ensures in
    let named : t.name ≡ Paired m = c.in-Paired.is in
    let value : c.nearest_by.result ≡ nearest i gs =
    c.nearest_by.ensures ∙ ap (λ (o : Option ℕ). nearest_by c.args.table.now t.shape (length gs) o) is
    ∙ own_next gs c.args.table.now t m c.requires.some c.requires.known e named ∙ ap (λ k. nearest k gs) (sym c.number-at.ensures.value) in
    set_next gs c.args.nearest.now i c.nearest_by.result c.number-at.ensures.within c.requires.behind value
    (λ k other. other_next k gs t m c.requires.some e named (λ q. other (c.number-at.ensures.value ∙ q)))
