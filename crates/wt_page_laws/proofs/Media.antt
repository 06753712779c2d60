-- Media end where the brackets balance.
use Rattle.std.proofs.Common.{◌≡◌, ℕ, ◌+◌, ◌-◌, Bool, true, false, Option, Some, None, List, length, refl, sym, ap, ◌∙◌}
use Rattle.std.specs.Prelude.{◌==◌, ◌&&◌, if◌then◌else◌, option_map, take}
use Rattle.std.proofs.lemmas.Option.{same_Some}
use Rattle.wt_tiles.specs.declared.glyph.Glyph.{Glyph}
use Rattle.wt_tiles.specs.declared.shape.Shape.{Shape}
use Rattle.wt_tiles.specs.declared.shape.TileKind.TheVariants as kind
use Rattle.wt_tiles.specs.declared.target.LinkKind.{LinkKind}
use Rattle.wt_tiles.specs.declared.target.LinkKind.TheVariants.{Page, Category, Media}
use Rattle.wt_tiles.specs.declared.target.Target.{Target}
use Rattle.wt_tiles.specs.Partners.{balanced}
use Rattle.wt_tiles.specs.Links.{leaf, target_of, target_len, inner_len, has_pipe, head_len, link_shape, kind_of, link_with, link_to, link_by, link_in}
use Rattle.wt_page_laws.specs.Brackets.{EndsBalanced}
use Rattle.wt_page_laws.proofs.Grammar.{balances_to}

-- a shape of this kind ends with what the kind says
abbrev Ends : LinkKind → ℕ → ℕ → Option ℕ → List Glyph → Shape → Type 0
Ends k head n o gs w = (m : ℕ) × (o ≡ Some m) × (w ≡ link_shape k head m gs)

if_shape : (empty : Bool) (x w : Shape) → ◌≡◌ {A = Option Shape} (if empty then None else Some x) (Some w) → w ≡ x
if_shape true x w e = cc
if_shape false x w e = sym (same_Some x w e)

with_shape : (t : Target) (n : ℕ) (o : Option ℕ) (gs : List Glyph) (w : Shape) → link_with t n o gs ≡ Some w
    → Ends (kind_of t) (head_len t.colon n gs) n o gs w
with_shape t n None gs w e = cc
with_shape t n (Some m) gs w e =
    (m, refl, if_shape (has_pipe n gs && m == n + 1) (link_shape (kind_of t) (head_len t.colon n gs) m gs) w e)

balanced_end : (gs : List Glyph) (o : Option (List Glyph)) (m : ℕ) (w : Shape) → balanced 0 0 gs ≡ o
    → option_map (λ (rest : List Glyph). length gs - length rest) o ≡ Some m → w ≡ leaf kind.Media (m + 4) → EndsBalanced gs w
balanced_end gs None m w e f g = cc
balanced_end gs (Some ys) m w e f g =
    (ys, balances_to gs ys e, g ∙ ap (λ k. leaf kind.Media (k + 4)) (sym (same_Some (length gs - length ys) m f)))

by_kind : (k : LinkKind) (head n : ℕ) (gs : List Glyph) (w : Shape) → Ends k head n (inner_len k n gs) gs w → w.kind ≡ kind.Media
    → EndsBalanced gs w
by_kind Page head n gs w (m, e, f) h = let no : kind.Link ≡ kind.Media = sym (ap (λ (x : Shape). x.kind) f) ∙ h in cc
by_kind Category head n gs w (m, e, f) h = let no : kind.Category ≡ kind.Media = sym (ap (λ (x : Shape). x.kind) f) ∙ h in cc
by_kind Media head n gs w (m, e, f) h = balanced_end gs (balanced 0 0 gs) m w refl e f

by_target : (o : Option Target) (n : ℕ) (gs : List Glyph) (w : Shape) → link_to o n gs ≡ Some w → w.kind ≡ kind.Media → EndsBalanced gs w
by_target None n gs w e h = cc
by_target (Some t) n gs w e h =
    by_kind (kind_of t) (head_len t.colon n gs) n gs w (with_shape t n (inner_len (kind_of t) n gs) gs w e) h

by_len : (o : Option ℕ) (gs : List Glyph) (w : Shape) → link_by o gs ≡ Some w → w.kind ≡ kind.Media → EndsBalanced gs w
by_len None gs w e h = cc
by_len (Some n) gs w e h = by_target (target_of (take n gs)) n gs w e h

pub media_end_balanced : (gs : List Glyph) (w : Shape) → link_in gs ≡ Some w → w.kind ≡ kind.Media → EndsBalanced gs w
unfolding link_in
media_end_balanced gs w e h = by_len (target_len gs) gs w e h
