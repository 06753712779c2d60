-- What the code's page and its comparison of plain views stand for.
use Rattle.std.specs.Prelude.{◌≡◌, ℕ, Bool, List, map, option_copied, string_bytes}
use Rattle.wt_tree.specs.Tree.{Tree}
use Rattle.wt_tree.specs.View.{attrs_of}
use Rattle.wt_tree.specs.Plain.{Face}
use Rattle.wt_tree.specs.Stream.{StreamToken as Mark, byte, bracket, opens, closes}
use Rattle.wt_original.specs.declared.page.Page.{Page as Known}
use Rattle.wt_original.specs.declared.same.Face.{Face as Pointed}
use Rattle.wt_original.specs.declared.same.Shown.{Shown}
use Rattle.wt_original.specs.declared.same.Shown.TheVariants as read
use Rattle.wt_original.specs.Kept.{Kept}
use Rattle.wt_original.specs.Gathered.{kept_view}
use Rattle.wt_original.specs.Page.{Page}

-- the kept nodes that the code holds
abbrev pub kept_in : Known → List Kept
kept_in p = map kept_view p.kept.items

abbrev pub page_view : (Tree → Tree → Bool) → Known → Page
page_view same p = record { kept = kept_in p; source = string_bytes p.source; same = same }

pub record IsPageOf (kept : List Kept) (source : List ℕ) (p : Known) : Type 0 where
  pub nodes : kept_in p ≡ kept
  pub bytes : string_bytes p.source ≡ source

-- ---- the comparison of plain views, read from left to right

abbrev pub face_of : Pointed → Face
face_of f = record { kind = f.kind; attrs = attrs_of f.attrs.now; mw = option_copied f.mw }

abbrev pub mark_of : Shown → Mark
mark_of (read.Byte b) = byte b
mark_of (read.Open f) = bracket (opens (face_of f))
mark_of read.Close = bracket closes

abbrev pub marks_of : List Shown → List Mark
marks_of xs = map mark_of xs
