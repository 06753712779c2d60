use Rattle.std.proofs.Common.{◌≡◌, ◌-◌, List, length, drop, sym, ◌∙◌, subst, codes}
use Rattle.wt_tiles.specs.declared.glyph.Glyph.{Glyph}
use Rattle.wt_tiles.proofs.Words.{begins_len}
use Rattle.wt_tiles.proofs.LinkFits.{end_later}
use Rattle.wt_tiles.proofs.link.link_at.Goals as goal

pub link_in-requires-clause-end : goal.link_in-requires-clause-end
link_in-requires-clause-end c =
    let P : List Glyph → Type 0 = λ hs. hs ≡ drop (length c.args.brackets.now - length hs) c.args.brackets.now in
    subst P (sym c.rest_of.ensures) (end_later c.args.brackets.now c.args.rest.now 2 c.requires.end c.requires.within
    (begins_len (codes "[[") c.args.rest.now (sym c.begins.ensures ∙ c.if-not-begins.false)))
