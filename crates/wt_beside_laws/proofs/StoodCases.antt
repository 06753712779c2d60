-- Worked cases: nodes as a page has them, and what may be behind them there.
use Rattle.std.proofs.Common.{◌≡◌, true, false, Some, None, [], ◌∷◌, refl, inr}
use Rattle.std.specs.Prelude.{codes}
use Rattle.std.proofs.Math.Utf8.{encode}
use Rattle.wt_guards.specs.declared.role.Role.TheVariants.{Bare, Switch, Node}
use Rattle.wt_tiles.specs.declared.shape.TileKind.TheVariants as kind
use Rattle.wt_tiles.specs.Contexts.{in_line}
use Rattle.wt_tiles.specs.Glyphs.{byte_glyphs}
use Rattle.wt_tiles.specs.Links.{leaf, link_at}
use Rattle.wt_tiles.specs.Tags.{tag_at, opening_tag, closing_tag, tag_after, name_of, live_name}
use Rattle.wt_tiles.specs.Tiles.{form_at, link_or_url, tag_tile, switch_at, switch_names, shapes, closed, tiles}
use Rattle.wt_tiles.specs.Urls.{scheme_len, is_url_char, is_dropped, kept_len, bare_shape, ext_link_at, bare_url_at}
use Rattle.wt_beside_laws.specs.Cuts.{form_before}
use Rattle.wt_text_edit_laws.specs.LonePages.{page_chars}
use Rattle.wt_beside_laws.specs.PageSigns.{AreFlatLines}
use Rattle.wt_beside_laws.specs.Stood.{IsRead, EndsUrl}
use Rattle.wt_beside_laws.proofs.Cases.{break_alone}

-- `http://k` before a space
before_space : IsRead false (Bare false) (byte_glyphs (codes "http://k")) (byte_glyphs (codes " y"))
unfolding form_at link_or_url link_at ext_link_at bare_url_at scheme_len is_url_char is_dropped kept_len tag_at opening_tag closing_tag
before_space = record { shape = bare_shape 8; form = refl; whole = refl; tile = refl }

-- before a full stop, which ends no URL
before_stop : IsRead false (Bare false) (byte_glyphs (codes "http://k")) (byte_glyphs (codes ". y"))
unfolding form_at link_or_url link_at ext_link_at bare_url_at scheme_len is_url_char is_dropped kept_len tag_at opening_tag closing_tag
before_stop = record { shape = bare_shape 8; form = refl; whole = refl; tile = refl }

stop_ends : EndsUrl (byte_glyphs (codes ". y"))
unfolding is_dropped
stop_ends = inr refl

-- before a tag
before_tag : IsRead false (Bare false) (byte_glyphs (codes "http://k")) (byte_glyphs (codes "<br>"))
unfolding form_at link_or_url link_at ext_link_at bare_url_at scheme_len is_url_char is_dropped kept_len tag_at opening_tag closing_tag
before_tag = record { shape = bare_shape 8; form = refl; whole = refl; tile = refl }

-- before a letter it goes on
goes_on : form_before in_line false (byte_glyphs (codes "http://k")) (byte_glyphs (codes "y")) ≡ Some (bare_shape 9)
unfolding form_at link_or_url link_at ext_link_at bare_url_at scheme_len is_url_char is_dropped kept_len
goes_on = refl

-- behind a letter none begins
none_behind : form_before in_line true (byte_glyphs (codes "http://k")) (byte_glyphs (codes " y")) ≡ None
unfolding form_at link_or_url link_at ext_link_at bare_url_at scheme_len tag_tile tag_at opening_tag closing_tag switch_at
none_behind = refl

-- `<br>` and `__TOC__` before a URL
break_before : IsRead false Node (byte_glyphs (codes "<br>")) (byte_glyphs (codes "http://k"))
unfolding form_at link_or_url link_at ext_link_at bare_url_at scheme_len tag_tile tag_at opening_tag closing_tag tag_after name_of live_name
break_before = record { shape = leaf kind.Br 4; form = refl; whole = refl; tile = tt }

switch_before : IsRead true Switch (byte_glyphs (codes "__TOC__")) (byte_glyphs (codes "x"))
unfolding form_at link_or_url link_at ext_link_at bare_url_at scheme_len tag_tile tag_at opening_tag closing_tag switch_at switch_names
switch_before = record { shape = leaf kind.Switch 7; form = refl; whole = refl; tile = refl }

-- the line `x<br>y`
flat_line : AreFlatLines (page_chars (codes "x<br>y") ∷ [])
unfolding tiles shapes closed form_at link_or_url link_at ext_link_at bare_url_at scheme_len tag_tile tag_at opening_tag closing_tag tag_after name_of live_name switch_at encode
flat_line = (
  (refl, (refl, (refl, (refl, (refl, (refl, tt)))))),
  ((120 ∷ [], (refl, refl)), (record { alone = break_alone }, ((121 ∷ [], (refl, refl)), tt))),
  tt,
)
