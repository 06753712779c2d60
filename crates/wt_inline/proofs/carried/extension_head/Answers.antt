use Rattle.std.proofs.Common.{◌++◌, ap, ◌∙◌}
use Rattle.std.specs.Prelude.{codes}
use Rattle.wt_span.specs.Slice.{bytes_of}
use Rattle.wt_tree.specs.declared.kind.Kind.TheVariants as kind
use Rattle.wt_tree.specs.Rare.{Rare}
use Rattle.wt_tree.specs.View.{attrs_of}
use Rattle.wt_inline.specs.Carried.{typeof}
use Rattle.wt_inline.proofs.Carrying.{name_ascii, extension_is, extension_head_is}
use Rattle.wt_inline.proofs.carried.extension_head.Goals as goal

pub lower_name-requires : goal.lower_name-requires
lower_name-requires c = name_ascii (bytes_of c.args.text) c.of-raw.result.name.now c.of-raw.ensures.name

pub returns : goal.returns
returns c =
    let bs = bytes_of c.args.text in
    let raw = c.of-raw.result in
    let name = c.in_ok-name.ensures ∙ c.of-raw.ensures.name in
    ap (λ (m : Rare). record { kind = kind.Island; shown = c.in_ok-shown.shown; attrs = attrs_of m.attrs; mw = m.mw }) c.in_ok-more.ensures
    ∙ extension_head_is bs c.in_ok-name.name c.in_ok-shown.shown (attrs_of c.in_ok-attrs.attrs) c.in_ok-data.data c.in_ok-shown.ensures name
    (c.in_ok-attrs.ensures ∙ ap (λ n. typeof (codes "mw:Extension/" ++ n)) c.as_str.ensures)
    (c.in_ok-data.ensures ∙ extension_is bs c.in_ok-name.name (bytes_of raw.inside) raw.alone name c.of-raw.ensures.alone c.of-raw.ensures.inside)
