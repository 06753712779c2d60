-- What each tile has: tags, switches, and any form.
use Rattle.std.proofs.Common.{◌≡◌, ℕ, zero, suc, ◌+◌, ◌-◌, ◌<◌, ◌≤◌, Bool, true, false, Option, Some, None, List, [], ◌∷◌, length, drop, nat_lt, refl, sym, ap, ◌∙◌, arith, subst, codes, length-drop}
use Rattle.std.specs.Prelude.{◌&&◌, if◌then◌else◌, option_map}
use Rattle.std.specs.List.{list_all}
use Rattle.wt_span.specs.declared.tag_name.TagName.{TagName}
use Rattle.wt_tiles.specs.declared.context.Context.{Context}
use Rattle.wt_tiles.specs.declared.glyph.Glyph.{Glyph}
use Rattle.wt_tiles.specs.declared.glyph.Glyph.TheVariants as glyph
use Rattle.wt_tiles.specs.declared.shape.Shape.{Shape}
use Rattle.wt_tiles.specs.declared.shape.TileKind.TheVariants as kind
use Rattle.wt_tiles.specs.declared.tag.Name.{Name}
use Rattle.wt_tiles.specs.declared.tag.Name.TheVariants.{Paired, Break, Island}
use Rattle.wt_tiles.specs.declared.tag.TagShape.{TagShape}
use Rattle.wt_tiles.specs.declared.tag.TagShape.TheVariants.{Opening, Alone, Closing}
use Rattle.wt_tiles.specs.declared.tag.Tag.{Tag}
use Rattle.wt_tiles.specs.Glyphs.{begins}
use Rattle.wt_tiles.specs.Tags.{tag_at}
use Rattle.wt_tiles.specs.Partners.{DepthChange, Up, Down, Level, number, turn_of_tag, tag_turn, by_tag, partner}
use Rattle.wt_tiles.specs.Links.{leaf, link_at}
use Rattle.wt_tiles.specs.Urls.{ext_link_at, bare_url_at}
use Rattle.wt_tiles.specs.Tiles.{len_of, pair_or_island, closing_for, shape_of_tag, tag_tile, switch_names, switch_len, switch_at, outside, link_or_url, form_at, tile_with}
use Rattle.wt_tiles.specs.Reading.{tile_at}
use Rattle.wt_tiles.specs.Edges.{low_at}
use Rattle.wt_tiles.proofs.Words.{and_left, and_right, lt_is, false_true, low_drop, begins_low, begins_len, is_low_word, edge_after, edge_at}
use Rattle.wt_tiles.proofs.TagFits.{TagFits, OptTag, tag_fits}
use Rattle.wt_tiles.proofs.LinkFits.{Fits, OptFits, or_fits, if_fits, leaf_fits, link_fits}
use Rattle.wt_tiles.proofs.UrlFits.{ext_fits, bare_fits}

-- ---- pairs

-- what is left begins with a closing tag, and is an end of the items
abbrev pub OptPartner : ℕ → List Glyph → Option (List Glyph) → Type 0
OptPartner n gs None = Unit {0}
OptPartner n gs (Some rest) = (tag_turn n rest ≡ Down) × (k : ℕ) × (drop k gs ≡ rest) × (k < length gs)

partner_later : (n : ℕ) (g : Glyph) (gs : List Glyph) (o : Option (List Glyph)) → OptPartner n gs o → OptPartner n (g ∷ gs) o
partner_later n g gs None f = tt
partner_later n g gs (Some rest) (turn, k, e, below) = (turn, suc k, e, omega arith)

partner_by : (n : ℕ) (t : DepthChange) (d : ℕ) (g : Glyph) (gs : List Glyph) → tag_turn n (g ∷ gs) ≡ t
    → ((e : ℕ) → OptPartner n gs (partner n e gs)) → OptPartner n (g ∷ gs) (by_tag t d (g ∷ gs) (λ e. partner n e gs))
partner_by n Up d g gs e f = partner_later n g gs _ (f (suc d))
partner_by n Level d g gs e f = partner_later n g gs _ (f d)
partner_by n Down zero g gs e f = (e, 0, refl, omega arith)
partner_by n Down (suc d) g gs e f = partner_later n g gs _ (f d)

pub partner_fits : (n d : ℕ) (gs : List Glyph) → OptPartner n gs (partner n d gs)
partner_fits n d [] = tt
partner_fits n d (g ∷ gs) = partner_by n (tag_turn n (g ∷ gs)) d g gs refl (λ e. partner_fits n e gs)

is_down : DepthChange → Bool
is_down Up = false
is_down Level = false
is_down Down = true

-- a closing tag is a tag
down_tag : (n : ℕ) (gs : List Glyph) (o : Option Tag) → turn_of_tag n o ≡ Down → OptTag gs o
    → (low_at gs 0 ≡ true) × (2 < len_of o) × (len_of o ≤ length gs) × (low_at gs (len_of o - 1) ≡ true)
unfolding is_down
down_tag n gs None e f = false_true (ap is_down e)
down_tag n gs (Some t) e f = (f.first, f.some, f.within, f.last)

pair_fits : (gs : List Glyph) (t : Tag) (m : ℕ) (o : Option (List Glyph)) → TagFits gs t → OptPartner m (drop t.len gs) o → Fits gs (pair_or_island t.len o gs)
pair_fits gs t m None f p = leaf_fits gs kind.TagIsland t.len (t.len - 1) tt (omega (arith, f.some)) f.within f.first f.last
pair_fits gs t m (Some rest) f (turn, k, e, below) =
    let d = down_tag m rest (tag_at rest) turn (tag_fits rest) in
    let c = len_of (tag_at rest) in
    let R : List Glyph → Type 0 = λ hs. low_at hs 0 ≡ true in
    let inner : length (drop t.len gs) - length rest ≡ k = omega (arith, ap (λ (hs : List Glyph). length hs) e, length-drop k (drop t.len gs)) in
    let first : low_at gs (t.len + (k + 0)) ≡ true = sym (low_drop t.len (k + 0) gs) ∙ sym (low_drop k 0 (drop t.len gs)) ∙ ap (λ hs. low_at hs 0) e ∙ d.0 in
    let last : low_at gs (t.len + (k + (c - 1))) ≡ true = sym (low_drop t.len (k + (c - 1)) gs)
    ∙ sym (low_drop k (c - 1) (drop t.len gs)) ∙ ap (λ hs. low_at hs (c - 1)) e ∙ d.3 in
    let size_of : length rest + k ≡ length (drop t.len gs) = omega (arith, ap (λ (hs : List Glyph). length hs) e, length-drop k (drop t.len gs)) in
    record {
      some = omega (arith, f.some);
      within = omega (arith, length-drop t.len gs, d.2, f.within);
      form = tt;
      edges = record {
        start = f.first;
        opening = edge_after gs (t.len - 1) t.len (omega (arith, f.some)) f.last;
        inside = edge_at gs (t.len + (k + 0)) (t.len + (length (drop t.len gs) - length rest)) (omega arith) first;
        closing = edge_after gs (t.len + (k + (c - 1))) (t.len + (length (drop t.len gs) - length rest) + c) (omega (arith, d.1)) last;
        trail = edge_after gs (t.len + (k + (c - 1))) (t.len + (length (drop t.len gs) - length rest) + c + 0) (omega (arith, d.1)) last;
      };
    }

-- ---- tags

closing_by : (pairs : ℕ) (m : TagName) (n : ℕ) (gs : List Glyph) → OptPartner (number m) (drop n gs) (closing_for pairs m n gs)
closing_by pairs m n gs = by (nat_lt pairs 16)
  where
    by : (t : Bool) → OptPartner (number m) (drop n gs) (if t then partner (number m) 0 (drop n gs) else None)
    by true = partner_fits (number m) 0 (drop n gs)
    by false = tt

tag_leaf : (gs : List Glyph) (t : Tag) → TagFits gs t → Fits gs (leaf kind.TagIsland t.len)
tag_leaf gs t f = leaf_fits gs kind.TagIsland t.len (t.len - 1) tt (omega (arith, f.some)) f.within f.first f.last

break_leaf : (gs : List Glyph) (t : Tag) → TagFits gs t → Fits gs (leaf kind.Br t.len)
break_leaf gs t f = leaf_fits gs kind.Br t.len (t.len - 1) tt (omega (arith, f.some)) f.within f.first f.last

named_fits : (pairs : ℕ) (n : Name) (s : TagShape) (gs : List Glyph) (t : Tag) → TagFits gs t → Fits gs (shape_of_tag pairs n s t.len gs)
named_fits pairs (Paired m) Opening gs t f = pair_fits gs t (number m) (closing_for pairs m t.len gs) f (closing_by pairs m t.len gs)
named_fits pairs (Paired m) Alone gs t f = tag_leaf gs t f
named_fits pairs (Paired m) Closing gs t f = tag_leaf gs t f
named_fits pairs Break Opening gs t f = break_leaf gs t f
named_fits pairs Break Alone gs t f = break_leaf gs t f
named_fits pairs Break Closing gs t f = tag_leaf gs t f
named_fits pairs Island s gs t f = tag_leaf gs t f

tagged : (pairs : ℕ) (gs : List Glyph) (o : Option Tag) → OptTag gs o → OptFits gs (option_map (λ t. shape_of_tag pairs t.name t.shape t.len gs) o)
tagged pairs gs None f = tt
tagged pairs gs (Some t) f = named_fits pairs t.name t.shape gs t f

tag_tile_fits : (pairs : ℕ) (gs : List Glyph) → OptFits gs (tag_tile pairs gs)
unfolding tag_tile
tag_tile_fits pairs gs = tagged pairs gs (tag_at gs) (tag_fits gs)

-- ---- switches

-- so many items end with `__`
abbrev pub OptSwitch : List Glyph → Option ℕ → Type 0
OptSwitch gs None = Unit {0}
OptSwitch gs (Some n) = (1 < n) × (n ≤ length gs) × (low_at gs (n - 1) ≡ true)

-- words of ASCII characters, of two or more
abbrev are_switches : List (List ℕ) → Bool
are_switches words = list_all (λ word. nat_lt 1 (length word) && is_low_word word) words

switch_step : (word : List ℕ) (gs : List Glyph) (t : Bool) (o : Option ℕ) → (nat_lt 1 (length word) && is_low_word word) ≡ true
    → (t ≡ true → begins word gs ≡ true) → OptSwitch gs o → OptSwitch gs (if t then Some (length word) else o)
switch_step word gs true o h b f =
    let long = lt_is 1 (length word) (and_left (nat_lt 1 (length word)) _ h) in
    (long, begins_len word gs (b refl), begins_low word gs (length word - 1) (and_right (nat_lt 1 (length word)) _ h) (b refl) (omega arith))
switch_step word gs false o h b f = f

switch_len_fits : (words : List (List ℕ)) (gs : List Glyph) → are_switches words ≡ true → OptSwitch gs (switch_len words gs)
switch_len_fits [] gs h = tt
switch_len_fits (word ∷ words) gs h =
    switch_step word gs (begins word gs) (switch_len words gs) (and_left (nat_lt 1 (length word) && is_low_word word) _ h)
    (λ e. e) (switch_len_fits words gs (and_right (nat_lt 1 (length word) && is_low_word word) _ h))

switches_are : are_switches switch_names ≡ true
unfolding switch_names
switches_are = refl

switched : (gs : List Glyph) (o : Option ℕ) → low_at gs 0 ≡ true → OptSwitch (drop 2 gs) o → OptFits gs (option_map (λ n. leaf kind.Switch (2 + n)) o)
switched gs None first f = tt
switched gs (Some n) first (some, within, last) =
    leaf_fits gs kind.Switch (2 + n) (2 + (n - 1)) tt (omega arith) (omega (arith, length-drop 2 gs)) first (sym (low_drop 2 (n - 1) gs) ∙ last)

switch_fits : (gs : List Glyph) → OptFits gs (switch_at gs)
unfolding switch_at
switch_fits gs =
    if_fits gs (begins (codes "__") gs) (option_map (λ n. leaf kind.Switch (2 + n)) (switch_len switch_names (drop 2 gs)))
    (λ e. switched gs (switch_len switch_names (drop 2 gs)) (begins_low (codes "__") gs 0 refl e (omega arith))
    (switch_len_fits switch_names (drop 2 gs) switches_are))

-- ---- any form

outside_fits : (t : Bool) (gs : List Glyph) (o : Option Shape) → OptFits gs o → OptFits gs (outside t o)
outside_fits true gs o f = tt
outside_fits false gs o f = f

links_fit : (after : Bool) (gs : List Glyph) → OptFits gs (link_or_url after gs)
unfolding link_or_url
links_fit after gs = or_fits gs (link_at gs) _ (link_fits gs) (or_fits gs (ext_link_at gs) (bare_url_at after gs) (ext_fits gs) (bare_fits after gs))

form_fits : (cx : Context) (after : Bool) (gs : List Glyph) → OptFits gs (form_at cx after gs)
unfolding form_at
form_fits cx after gs =
    or_fits gs (outside cx.in_link (link_or_url after gs)) _ (outside_fits cx.in_link gs (link_or_url after gs) (links_fit after gs))
    (or_fits gs (tag_tile cx.pairs gs) (switch_at gs) (tag_tile_fits cx.pairs gs) (switch_fits gs))

one_fits : (cx : Context) (after : Bool) (g : Glyph) (gs : List Glyph) → OptFits (g ∷ gs) (tile_with cx after g (g ∷ gs))
one_fits cx after (glyph.Byte b) gs = form_fits cx after (glyph.Byte b ∷ gs)
one_fits cx after (glyph.Entity c) gs = leaf_fits (glyph.Entity c ∷ gs) kind.Atom 1 0 tt refl (omega arith) refl refl
one_fits cx after glyph.Atom gs = leaf_fits (glyph.Atom ∷ gs) kind.Atom 1 0 tt refl (omega arith) refl refl
one_fits cx after glyph.Mark gs = leaf_fits (glyph.Mark ∷ gs) kind.Mark 1 0 tt refl (omega arith) refl refl

pub all_fit : (cx : Context) (after : Bool) (gs : List Glyph) → OptFits gs (tile_at cx after gs)
all_fit cx after [] = tt
all_fit cx after (g ∷ gs) = one_fits cx after g gs

pub tile_fits : (cx : Context) (after : Bool) (gs : List Glyph) (w : Shape) → tile_at cx after gs ≡ Some w → Fits gs w
tile_fits cx after gs w e = let P : Option Shape → Type 0 = λ o. OptFits gs o in subst P e (all_fit cx after gs)
