-- Worked cases: what nodes are to their neighbours, a URL between two letters, a tag that opens a pair, and what a URL may end with.
use Rattle.std.proofs.Common.{arith, ◌≡◌, true, false, Some, None, List, [], ◌∷◌, ◌++◌, map, refl, sym, subst, inl, inr}
use Rattle.std.specs.Prelude.{codes}
use Rattle.wt_tree.specs.declared.edit_shape.Place.TheVariants.{Paragraph}
use Rattle.wt_span.specs.declared.tag_name.TagName.TheVariants as name
use Rattle.wt_span.specs.Entities.{entity_names}
use Rattle.wt_span.specs.Items.{Item}
use Rattle.wt_guards.specs.declared.role.Role.TheVariants.{Bare}
use Rattle.wt_guards.specs.Content.{Thing, letter, thing}
use Rattle.wt_guards.specs.Guards.{Setting, is_guarded, is_between_guard, is_start_guard, is_end_guard, is_blank_guard}
use Rattle.wt_guards.specs.Table.{hazard, line_start_hazard}
use Rattle.wt_tiles.specs.declared.tag.Name.TheVariants.{Paired, Break}
use Rattle.wt_tiles.specs.declared.tag.TagShape.TheVariants.{Opening}
use Rattle.wt_tiles.specs.declared.glyph.Glyph.{Glyph}
use Rattle.wt_tiles.specs.declared.glyph.Glyph.TheVariants as glyph
use Rattle.wt_tiles.specs.Glyphs.{glyph_of, byte_glyphs}
use Rattle.wt_tiles.specs.Partners.{number}
use Rattle.wt_tiles.specs.Tags.{tag_at, opening_tag, closing_tag, tag_after, name_of, live_name}
use Rattle.wt_tiles.specs.Tiles.{switch_names}
use Rattle.wt_tiles.specs.Urls.{scheme_len, is_url_char, is_dropped, kept_len, bare_shape, ext_shape, ext_link_at, bare_url_at}
use Rattle.wt_text_edit_laws.specs.LonePages.{page_chars}
use Rattle.wt_beside_laws.specs.Cuts.{own_glyphs}
use Rattle.wt_beside_laws.specs.References.{may_be_reference}
use Rattle.wt_beside_laws.specs.Glyphs.{line_glyphs}
use Rattle.wt_beside_laws.specs.NodeItems.{node_items}
use Rattle.wt_beside_laws.specs.Nodes.{IsExternalNode, IsBareNode, IsSwitchNode, IsDelimiter, IsTagNode, IsOpenBefore, AllMeet}
use Rattle.wt_beside_laws.specs.OpenTags.{ends_in_tag}
use Rattle.wt_beside_laws.proofs.Firm.{firm_read}
use Rattle.wt_beside_laws.proofs.LinesOpen.{depth_past}
use Rattle.wt_beside_laws.proofs.NodeItems.{node_as}
use Rattle.wt_beside_laws.proofs.OpenTags.{untagged_open}

address : IsBareNode (byte_glyphs (codes "http://k"))
unfolding bare_url_at scheme_len is_url_char is_dropped kept_len
address = record { shape = bare_shape 8; first = 104; others = byte_glyphs (codes "ttp://k"); is = refl; unbracketed = refl; url = refl; whole = refl }

external : IsExternalNode (byte_glyphs (codes "[http://k a]"))
unfolding ext_link_at scheme_len is_url_char
external = record { shape = ext_shape 10 1; inside = byte_glyphs (codes "http://k a]"); is = refl; single = refl; link = refl; whole = refl }

contents_list : IsSwitchNode (byte_glyphs (codes "__TOC__"))
unfolding switch_names
contents_list = record { word = codes "TOC__"; named = (2, omega arith, refl); is = refl }

bold_quotes : IsDelimiter (byte_glyphs (codes "'''"))
bold_quotes = inr refl

break_tag : IsTagNode (byte_glyphs (codes "<br>"))
unfolding tag_at opening_tag closing_tag tag_after name_of live_name
break_tag = record { named = record { name = Break; shape = Opening; len = 4 }; others = byte_glyphs (codes "br>"); is = refl; tagged = refl; ends = inl refl }

small_pair : IsTagNode (byte_glyphs (codes "<sub>2</sub>"))
unfolding tag_at opening_tag closing_tag tag_after name_of live_name
small_pair = record {
  named = record { name = Paired name.Sub; shape = Opening; len = 5 };
  others = byte_glyphs (codes "sub>2</sub>");
  is = refl;
  tagged = refl;
  ends = inr (record { name = name.Sub; paired = refl; opens = refl; last = byte_glyphs (codes "</sub>"); closing = refl; ends = refl; within = omega arith });
}

-- `x`, a URL and `y`: `<nowiki/>` is put on both sides
abbrev in_paragraph : Setting
in_paragraph = record { within = false; place = Paragraph; source = [] }

abbrev url : Thing
url = record { role = Bare false; source = codes "http://k"; place = None }

parted : (is_guarded in_paragraph (letter 120 ∷ []) (thing url ∷ letter 121 ∷ []) ≡ true) × (is_guarded in_paragraph (thing url ∷ letter 120 ∷ []) (letter 121 ∷ []) ≡ true)
unfolding is_guarded is_between_guard is_start_guard is_end_guard is_blank_guard hazard line_start_hazard
parted = (refl, refl)

-- and between a blank and a URL nothing is
unparted : is_guarded in_paragraph (letter 32 ∷ letter 120 ∷ []) (thing url ∷ letter 32 ∷ []) ≡ false
unfolding is_guarded is_between_guard is_start_guard is_end_guard is_blank_guard hazard line_start_hazard
unparted = refl

its_items : node_items (codes "http://k") ≡ page_chars (codes "http://k")
its_items = node_as (codes "http://k") (page_chars (codes "http://k")) (firm_read (codes "http://k") (refl, (refl, (refl, (refl, (refl, (refl, (refl, (refl, tt)))))))))

no_tag : (behind : List Glyph) → IsOpenBefore (own_glyphs url) behind
no_tag behind = subst (λ (xs : List Item). IsOpenBefore (map glyph_of xs) behind) (sym its_items) (untagged_open (byte_glyphs (codes "http://k")) behind refl)

beside_url : AllMeet in_paragraph [] (letter 120 ∷ thing url ∷ letter 121 ∷ []) []
unfolding is_guarded is_between_guard is_start_guard is_end_guard is_blank_guard hazard line_start_hazard
beside_url = (tt, tt, (tt, no_tag (line_glyphs in_paragraph (thing url ∷ letter 120 ∷ []) (letter 121 ∷ [])), (tt, tt, tt)))

-- ---- a tag that opens a pair

-- `<small>`: nothing behind it may close it
small_tag : IsTagNode (byte_glyphs (codes "<small>"))
unfolding tag_at opening_tag closing_tag tag_after name_of live_name
small_tag = record { named = record { name = Paired name.Small; shape = Opening; len = 7 }; others = byte_glyphs (codes "small>"); is = refl; tagged = refl; ends = inl refl }

before_letters : IsOpenBefore (byte_glyphs (codes "<small>")) (byte_glyphs (codes "a<br>"))
unfolding tag_at opening_tag closing_tag tag_after name_of live_name
before_letters = λ e. refl

before_its_end : IsOpenBefore (byte_glyphs (codes "<small>")) (byte_glyphs (codes "a</small>")) → ⊥
unfolding tag_at opening_tag closing_tag tag_after name_of live_name
before_its_end h = let no : Some (byte_glyphs (codes "</small>")) ≡ None = h refl in cc

-- a comment in it hides that a tag isn't ended: `[http://x <small <!--c--> a]`
open_tag : ends_in_tag (byte_glyphs (codes "[http://x <small ") ++ (glyph.Mark ∷ byte_glyphs (codes " a]"))) ≡ true
open_tag = refl

ended_tag : ends_in_tag (byte_glyphs (codes "[http://x <small> a]")) ≡ false
ended_tag = refl

-- a closing tag can't go on there, and without the comment the bytes tell the tag
closing_there : ends_in_tag (byte_glyphs (codes "[http://x </small ") ++ (glyph.Mark ∷ byte_glyphs (codes " a]"))) ≡ false
closing_there = refl

told_by_bytes : ends_in_tag (byte_glyphs (codes "[http://x <small  a]")) ≡ false
told_by_bytes = refl

told_with_a_reference : ends_in_tag (byte_glyphs (codes "[http://x <small ") ++ (glyph.Entity 38 ∷ byte_glyphs (codes " a]"))) ≡ false
told_with_a_reference = refl

no_tag_there : ends_in_tag (byte_glyphs (codes "[[a|b < c]]")) ≡ false
no_tag_there = refl

-- tags of a name in a node, and one that closes what was open before it
as_deep : depth_past (number name.Sub) 1 (byte_glyphs (codes "<sub>2</sub>")) ≡ Some 1
unfolding tag_at opening_tag closing_tag tag_after name_of live_name
as_deep = refl

closes_one : depth_past (number name.Sub) 1 (byte_glyphs (codes "2</sub>")) ≡ Some 0
unfolding tag_at opening_tag closing_tag tag_after name_of live_name
closes_one = refl

closes_first : depth_past (number name.Sub) 0 (byte_glyphs (codes "2</sub>")) ≡ None
unfolding tag_at opening_tag closing_tag tag_after name_of live_name
closes_first = refl

-- ---- what a URL may end with

action : may_be_reference (codes "&action") ≡ false
unfolding entity_names
action = refl

copied : may_be_reference (codes "&copy") ≡ true
unfolding entity_names
copied = refl

numbered_so : may_be_reference (codes "&#1") ≡ true
unfolding entity_names
numbered_so = refl
