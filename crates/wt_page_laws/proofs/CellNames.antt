-- The cells of a line are named by how the line begins.
use Rattle.std.proofs.Common.{◌≡◌, ℕ, zero, suc, Bool, true, false, List, [], ◌∷◌, ◌++◌, length, map, refl, sym, ap, ◌∙◌, inl, inr, subst}
use Rattle.std.specs.Prelude.{if◌then◌else◌, replicate, codes}
use Rattle.wt_span.specs.Items.{Item, sign}
use Rattle.wt_span.specs.Bytes.{begins}
use Rattle.wt_tables.specs.declared.scan.Splits.{Splits}
use Rattle.wt_tables.specs.Cells.{Cell, signs, splits_at, onto, parts as line_cuts, cell_of as cell_made, cells_in, header_by, sign_len, split_by, cells_from}
use Rattle.wt_inline.specs.ItemTree.{inner, forest}
use Rattle.wt_inline.specs.Parts.{children}
use Rattle.wt_context.specs.Line.{line_parts}
use Rattle.wt_page.specs.Rows.{Row}
use Rattle.wt_page.specs.Stretches.{Stretch, gap, block, stretches_parts}
use Rattle.wt_page.specs.Tables.{Reading, with_attrs, cell_kind, cell_by, cells_by, cell_stretches}
use Rattle.wt_page_laws.specs.Roles.{role, is_cell}
use Rattle.wt_page_laws.specs.Members.{cell_of, cells_among, cell_name}
use Rattle.wt_page_laws.proofs.Told.{TellsNone, told_in, children_told, in_both, behind_gap, of_opened}

none_told : TellsNone cell_of
none_told (inner h opening ts closing) (inl e) = ap (λ r. if is_cell r then h.kind ∷ [] else []) e
none_told (inner h opening ts closing) (inr e) = ap (λ r. if is_cell r then h.kind ∷ [] else []) e

cell_told : (caption : Bool) (c : Cell) (ss : List Stretch) → told_in cell_of (cell_by caption c ss) ≡ cell_kind caption c.header ∷ []
cell_told caption c ss =
    of_opened cell_of none_told (with_attrs (cell_kind caption c.header) c.attrs) c.opening (block (line_parts c.rest) ∷ ss) ∙ by caption c.header
  where
    by : (a b : Bool) → (if is_cell (role (cell_kind a b)) then cell_kind a b ∷ [] else []) ≡ cell_kind a b ∷ []
    by true b = refl
    by false true = refl
    by false false = refl

cells_told : (caption : Bool) (c : Cell) (cs : List Cell) (ss : List Stretch)
    → told_in cell_of (cells_by caption (c ∷ cs) ss) ≡ map (λ d. cell_kind caption d.header) (c ∷ cs)
cells_told caption c [] ss = cell_told caption c ss
cells_told caption c (d ∷ cs) ss =
    in_both cell_of (cell_by caption c []) (cells_by caption (d ∷ cs) ss)
    ∙ ap (λ ks. ks ++ told_in cell_of (cells_by caption (d ∷ cs) ss)) (cell_told caption c [])
    ∙ ap (λ ks. cell_kind caption c.header ∷ ks) (cells_told caption d cs ss)

-- ---- the cells of a line

onto_some : (x : Item) (ps : List (List Item)) → (p : List Item) × (qs : List (List Item)) × (onto x ps ≡ p ∷ qs)
onto_some x [] = (x ∷ [], [], refl)
onto_some x (p ∷ ps) = (x ∷ p, ps, refl)

pub cuts_some : (by : Splits) (n : ℕ) (xs : List Item) → (p : List Item) × (qs : List (List Item)) × (line_cuts by n xs ≡ p ∷ qs)
cuts_some by n [] = ([], [], refl)
cuts_some by (suc n) (x ∷ xs) = onto_some x (line_cuts by n xs)
cuts_some by zero (x ∷ xs) = choose (splits_at by (x ∷ xs))
  where
    choose : (b : Bool) → (p : List Item) × (qs : List (List Item))
        × ((if b then [] ∷ onto x (line_cuts by 1 xs) else onto x (line_cuts by zero xs)) ≡ p ∷ qs)
    choose true = ([], onto x (line_cuts by 1 xs), refl)
    choose false = onto_some x (line_cuts by zero xs)

header_is : (header : Bool) (n : ℕ) (p : List Item) → (cell_made header n p).header ≡ header
unfolding cell_made
header_is header n p = refl

further_named : (caption header : Bool) (ps : List (List Item))
    → map (λ d. cell_kind caption d.header) (map (cell_made header 2) ps) ≡ replicate (length (map (cell_made header 2) ps)) (cell_kind caption header)
further_named caption header [] = refl
further_named caption header (p ∷ ps) =
    ap (λ h. cell_kind caption h ∷ map (λ d. cell_kind caption d.header) (map (cell_made header 2) ps)) (header_is header 2 p)
    ∙ ap (λ ks. cell_kind caption header ∷ ks) (further_named caption header ps)

some_named : (caption header : Bool) (n : ℕ) (cs : List (List Item)) (p : List Item) (ps : List (List Item)) (ss : List Stretch) → cs ≡ p ∷ ps
    → told_in cell_of (cells_by caption (cells_in header n cs) ss) ≡ replicate (length (cells_in header n cs)) (cell_kind caption header)
some_named caption header n cs p ps ss e =
    subst (λ ds. told_in cell_of (cells_by caption (cells_in header n ds) ss) ≡ replicate (length (cells_in header n ds)) (cell_kind caption header)) (sym e)
    (cells_told caption (cell_made header n p) (map (cell_made header 2) ps) ss
    ∙ ap (λ h. cell_kind caption h ∷ map (λ d. cell_kind caption d.header) (map (cell_made header 2) ps)) (header_is header n p)
    ∙ ap (λ ks. cell_kind caption header ∷ ks) (further_named caption header ps))

name_is : (caption : Bool) (ss : List ℕ) → cell_kind caption (header_by caption ss) ≡ cell_name caption (begins (codes "!") ss)
name_is true ss = refl
name_is false ss = by (begins (codes "!") ss)
  where
    by : (b : Bool) → cell_kind false b ≡ cell_name false b
    by true = refl
    by false = refl

pub cells_named : (read : Reading) (caption : Bool) (r : Row) (rs : List Row)
    → cells_among (forest (children (stretches_parts (cell_stretches read caption (r ∷ rs)))))
    ≡ replicate (length (cells_from caption r.items)) (cell_name caption (begins (codes "!") (map sign r.items)))
unfolding cell_stretches
cells_named read caption r rs =
    let ss = gap r.ending ∷ read rs in
    let q = cuts_some (split_by caption (signs r.items)) (sign_len caption) r.items in
    children_told cell_of none_told (stretches_parts (gap r.lead ∷ cells_by caption (cells_from caption r.items) ss))
    ∙ behind_gap cell_of none_told r.lead (cells_by caption (cells_from caption r.items) ss)
    ∙ some_named caption (header_by caption (signs r.items)) (sign_len caption)
    (line_cuts (split_by caption (signs r.items)) (sign_len caption) r.items) q.0 q.1 ss q.2
    ∙ ap (replicate (length (cells_from caption r.items))) (name_is caption (signs r.items))
