-- The content of the page itself is spelled to its own source, where nothing is put and no character is a reference.
use Rattle.std.proofs.Common.{◌≡◌, ℕ, Bool, true, false, List, [], ◌∷◌, ◌++◌, map, refl, sym, ap, ◌∙◌, append_assoc, append-nil, Option, Some}
use Rattle.std.specs.Prelude.{◌||◌, encode_utf8, if◌then◌else◌}
use Rattle.std.specs.List.{flat_map}
use Rattle.std.specs.Str.{chars, IsUtf8}
use Rattle.std.proofs.Math.Utf8.{encodes}
use Rattle.std.proofs.lemmas.Grind.{flat_map-append}
use Rattle.std.proofs.lemmas.Str.{encodes-chars}
use Rattle.wt_tree.specs.Tree.{Label, Tree, tree, Trees, none, more, label}
use Rattle.wt_tree.specs.Plain.{plain}
use Rattle.wt_tree.specs.Source.{flat, flat_of_all}
use Rattle.wt_tree.specs.Tiling.{is_group}
use Rattle.wt_tree.specs.declared.edit_shape.InlineForm.{InlineForm}
use Rattle.wt_tree.specs.declared.edit_shape.InlineForm.TheVariants as inline
use Rattle.wt_tree.specs.declared.edit_shape.Place.{Place}
use Rattle.wt_tree.specs.EditShapes.{edit_shape}
use Rattle.wt_guards.specs.Content.{ContentSign, letter, letters}
use Rattle.wt_original.specs.Kept.{Kept, kept_with}
use Rattle.wt_original.specs.Page.{Page, page_of, TellsSame, restored, is_unchanged}
use Rattle.wt_link_spelling.specs.Spelling.{kept_thing, unless_kept, as_it_stood, toggle, or_nowiki, style, opening_place, closing_place, signs_by, signs_of, signs_of_all, children_of, inline_spelling}
use Rattle.wt_guards.specs.WrittenLaws.{itself, IsQuiet}
use Rattle.wt_escape.specs.OwnContent.{IsStyle, HasSigns, setting_in}
use Rattle.wt_guards.proofs.SpellingLaws.{quiet_from}

-- The node is found by its number, and so is each group in it.
pub record IsFound (p : Page) (t : Tree) : Type 0 where
  pub kept : Kept
  pub found : kept_with (label t).id p.kept ≡ Some kept
  pub node : kept.node ≡ t
  pub same : restored p.kept t ≡ kept.node

-- a plain node that is found
abbrev pub IsOwnBy : InlineForm → Page → Place → Label → Trees → Type 0 → Type 0
IsOwnBy inline.Nothing p pl l ts held = flat (tree l ts) ≡ []
IsOwnBy inline.Characters p pl l ts held = (flat (tree l ts) ≡ l.shown) × IsUtf8 l.shown
IsOwnBy inline.Bold p pl l ts held = held × IsStyle (39 ∷ 39 ∷ 39 ∷ []) l (signs_of_all p pl ts)
IsOwnBy inline.Italic p pl l ts held = held × IsStyle (39 ∷ 39 ∷ []) l (signs_of_all p pl ts)
IsOwnBy inline.Shown p pl l ts held = IsFound p (tree l ts)
IsOwnBy inline.PageLink p pl l ts held = IsFound p (tree l ts)
IsOwnBy inline.ExternalLink p pl l ts held = IsFound p (tree l ts)
IsOwnBy inline.Tag p pl l ts held = IsFound p (tree l ts)
IsOwnBy inline.Break p pl l ts held = IsFound p (tree l ts)
IsOwnBy inline.AsItStood p pl l ts held = IsFound p (tree l ts)

abbrev mutual
  pub IsOwn : Page → Place → Tree → Type 0
  IsOwn p pl (tree l ts) = IsOwnBy (edit_shape l.kind).inline p pl l ts (AreOwn p pl ts)

  pub AreOwn : Page → Place → Trees → Type 0
  AreOwn p pl none = Unit {0}
  AreOwn p pl (more t ts) = IsOwn p pl t × AreOwn p pl ts

-- what the signs show as they stand
abbrev written : List ContentSign → List ℕ
written signs = flat_map itself signs

written_append : (xs ys : List ContentSign) → written (xs ++ ys) ≡ written xs ++ written ys
written_append xs ys = flat_map-append itself xs ys

written_letters : (cs : List ℕ) → written (map letter cs) ≡ encodes cs
written_letters [] = refl
written_letters (c ∷ cs) = ap (λ bs. encode_utf8 c ++ bs) (written_letters cs)

pub written_text : (text : List ℕ) → IsUtf8 text → written (letters text) ≡ text
written_text text u = written_letters (chars text) ∙ encodes-chars text u

-- a node that is found is unchanged, and written as it stands
unchanged : (p : Page) (t : Tree) (f : IsFound p t) → TellsSame p.same → is_unchanged p f.kept t ≡ true
unchanged p t f tells =
    let same : p.same (restored p.kept t) f.kept.node ≡ true =
    (tells (restored p.kept t) f.kept.node).1 (ap (λ (u : Tree). (label u).kind) f.same, ap plain f.same) in
    ap (λ (b : Bool). is_group (label f.kept.node).kind || b) same ∙ or_true (is_group (label f.kept.node).kind)
  where
    or_true : (b : Bool) → (b || true) ≡ true
    or_true true = refl
    or_true false = refl

written_kept : (p : Page) (t : Tree) (f : IsFound p t) → written (kept_thing f.kept ∷ []) ≡ flat t
written_kept p t f = append-nil (flat f.kept.node) ∙ ap flat f.node

written_found : (p : Page) (t : Tree) (new : List ContentSign) → IsFound p t → TellsSame p.same
    → written (unless_kept p (kept_with (label t).id p.kept) t new) ≡ flat t
written_found p t new f tells =
    ap (λ k. written (unless_kept p k t new)) f.found
    ∙ ap (λ (b : Bool). written (if b then kept_thing f.kept ∷ [] else new)) (unchanged p t f tells) ∙ written_kept p t f

written_island : (p : Page) (t : Tree) → IsFound p t → written (as_it_stood (kept_with (label t).id p.kept)) ≡ flat t
written_island p t f = ap (λ k. written (as_it_stood k)) f.found ∙ written_kept p t f

or_nowiki_is : (inside : List ContentSign) → HasSigns inside → or_nowiki inside ≡ inside
or_nowiki_is [] h = absurd h
or_nowiki_is (s ∷ ss) h = refl

written_style : (sign : List ℕ) (k : Option Kept) (l : Label) (ts : Trees) (inside : List ContentSign) → IsStyle sign l inside
    → written inside ≡ flat_of_all ts → written (style sign k inside) ≡ flat (tree l ts)
written_style sign k l ts inside h e =
    let closed = toggle sign (closing_place k) ∷ [] in
    ap (λ ss. written (toggle sign (opening_place k) ∷ (ss ++ closed))) (or_nowiki_is inside h.some)
    ∙ ap (λ bs. sign ++ bs) (written_append inside closed ∙ ap (λ bs. bs ++ (sign ++ [])) e ∙ ap (λ bs. flat_of_all ts ++ bs) (append-nil sign))
    ∙ ap (λ bs. bs ++ (flat_of_all ts ++ sign)) (sym h.opening)
    ∙ ap (λ bs. l.opening ++ (flat_of_all ts ++ bs)) (sym h.closing)
    ∙ rw h.no_leaf (sym (append_assoc l.opening (flat_of_all ts) l.closing))

written_by_way : (w : InlineForm) (p : Page) (pl : Place) (l : Label) (ts : Trees) (held : Type 0) → TellsSame p.same → IsOwnBy w p pl l ts held
    → (held → written (signs_of_all p pl ts) ≡ flat_of_all ts)
    → written (signs_by w p pl (kept_with l.id p.kept) l ts (signs_of_all p pl ts)) ≡ flat (tree l ts)
written_by_way inline.Nothing p pl l ts held tells h f = sym h
written_by_way inline.Characters p pl l ts held tells h f = written_text l.shown h.1 ∙ sym h.0
written_by_way inline.Bold p pl l ts held tells h f =
    written_style (39 ∷ 39 ∷ 39 ∷ []) (kept_with l.id p.kept) l ts (signs_of_all p pl ts) h.1 (f h.0)
written_by_way inline.Italic p pl l ts held tells h f =
    written_style (39 ∷ 39 ∷ []) (kept_with l.id p.kept) l ts (signs_of_all p pl ts) h.1 (f h.0)
written_by_way inline.Shown p pl l ts held tells h f = written_found p (tree l ts) _ h tells
written_by_way inline.PageLink p pl l ts held tells h f = written_found p (tree l ts) _ h tells
written_by_way inline.ExternalLink p pl l ts held tells h f = written_found p (tree l ts) _ h tells
written_by_way inline.Tag p pl l ts held tells h f = written_found p (tree l ts) _ h tells
written_by_way inline.Break p pl l ts held tells h f = written_found p (tree l ts) _ h tells
written_by_way inline.AsItStood p pl l ts held tells h f = written_island p (tree l ts) h

mutual
  written_own : (p : Page) (pl : Place) (t : Tree) → TellsSame p.same → IsOwn p pl t → written (signs_of p pl t) ≡ flat t
  written_own p pl (tree l ts) tells h = written_by_way (edit_shape l.kind).inline p pl l ts (AreOwn p pl ts) tells h (λ g. written_all p pl ts tells g)

  written_all : (p : Page) (pl : Place) (ts : Trees) → TellsSame p.same → AreOwn p pl ts → written (signs_of_all p pl ts) ≡ flat_of_all ts
  written_all p pl none tells h = refl
  written_all p pl (more t ts) tells h =
      written_append (signs_of p pl t) (signs_of_all p pl ts) ∙ ap (λ bs. bs ++ written (signs_of_all p pl ts)) (written_own p pl t tells h.0)
      ∙ ap (λ bs. flat t ++ bs) (written_all p pl ts tells h.1)

pub own_spelling : (same : Tree → Tree → Bool) (block : Tree) (pl : Place) → TellsSame same → AreOwn (page_of same block) pl (children_of block)
    → IsQuiet (setting_in (page_of same block) pl) [] (signs_of_all (page_of same block) pl (children_of block))
    → inline_spelling same block block pl ≡ flat_of_all (children_of block)
unfolding inline_spelling
own_spelling same block pl tells h q =
    let p = page_of same block in
    quiet_from (setting_in p pl) [] (signs_of_all p pl (children_of block)) q ∙ written_all p pl (children_of block) tells h
