-- The text and the source of pieces.
use Rattle.std.proofs.Common.{◌≡◌, ℕ, true, false, Option, List, [], ◌∷◌, ◌++◌, map, refl, sym, ap, ◌∙◌, append-nil, ◌+◌, ◌<◌, length, take, get_or}
use Rattle.std.specs.Prelude.{not}
use Rattle.std.proofs.lemmas.List.{take_more}
use Rattle.std.proofs.lemmas.List.Elements.{filter-append}
use Rattle.std.proofs.lemmas.Grind.{flat_map-append}
use Rattle.wt_span.specs.declared.form.ItemForm.{ItemForm}
use Rattle.wt_span.specs.declared.form.ItemForm.TheVariants as form
use Rattle.wt_span.specs.declared.form.Piece.{Piece}
use Rattle.wt_span.specs.Slice.{bytes_of}
use Rattle.wt_span.specs.Items.{Item, char, items, items_of, items_by, call_of_origin, source, sources, is_mark, is_mark_form}
use Rattle.wt_context.specs.Chunks.{visible}
use Rattle.wt_context.specs.Heads.{visible_source}

source_bytes : (o : Option ℕ) (bs : List ℕ) → sources (map (char o) bs) ≡ bs
source_bytes o [] = refl
source_bytes o (b ∷ bs) = ap (λ cs. b ∷ cs) (source_bytes o bs)

pub source_by : (f : ItemForm) (o : Option ℕ) (bs : List ℕ) → sources (items_by f o bs) ≡ bs
source_by form.Chars o bs = source_bytes o bs
source_by (form.Entity c) o bs = append-nil bs
source_by form.Nowiki o bs = append-nil bs
source_by form.Extension o bs = append-nil bs
source_by form.Function o bs = append-nil bs
source_by form.Comment o bs = append-nil bs
source_by form.Include o bs = append-nil bs
source_by form.Hidden o bs = append-nil bs
source_by form.EmptyCall o bs = append-nil bs

visible_bytes : (o : Option ℕ) (bs : List ℕ) → visible (map (char o) bs) ≡ map (char o) bs
visible_bytes o [] = refl
visible_bytes o (b ∷ bs) = ap (λ xs. char o b ∷ xs) (visible_bytes o bs)

pub visible_by : (f : ItemForm) (o : Option ℕ) (bs : List ℕ) → is_mark_form f ≡ false → visible_source (items_by f o bs) ≡ bs
visible_by form.Chars o bs e = ap sources (visible_bytes o bs) ∙ source_bytes o bs
visible_by (form.Entity c) o bs e = append-nil bs
visible_by form.Nowiki o bs e = append-nil bs
visible_by form.Extension o bs e = append-nil bs
visible_by form.Function o bs e = append-nil bs
visible_by form.Comment o bs e = cc
visible_by form.Include o bs e = cc
visible_by form.Hidden o bs e = cc
visible_by form.EmptyCall o bs e = cc

pub hidden_by : (f : ItemForm) (o : Option ℕ) (bs : List ℕ) → is_mark_form f ≡ true → visible_source (items_by f o bs) ≡ []
hidden_by form.Chars o bs e = cc
hidden_by (form.Entity c) o bs e = cc
hidden_by form.Nowiki o bs e = cc
hidden_by form.Extension o bs e = cc
hidden_by form.Function o bs e = cc
hidden_by form.Comment o bs e = refl
hidden_by form.Include o bs e = refl
hidden_by form.Hidden o bs e = refl
hidden_by form.EmptyCall o bs e = refl

pub visible_both : (xs ys : List Item) → visible_source (xs ++ ys) ≡ visible_source xs ++ visible_source ys
visible_both xs ys = ap sources (filter-append (λ x. not (is_mark x)) xs ys) ∙ flat_map-append source (visible xs) (visible ys)

pub source_step : (ps : List Piece) (at : ℕ) (p : Piece) (old new text : List ℕ) → at < length ps → p ≡ get_or ps at p → old ≡ sources (items (take at ps))
    → new ≡ old ++ text → text ≡ bytes_of p.text
    → new ≡ sources (items (take (at + 1) ps))
source_step ps at p old new text l e i n t =
    let more : take (at + 1) ps ≡ take at ps ++ p ∷ [] = take_more ps at p l ∙ ap (λ q. take at ps ++ q ∷ []) (sym e) in
    let one : items (take (at + 1) ps) ≡ items (take at ps) ++ items_of p = ap items more ∙ flat_map-append items_of (take at ps) (p ∷ [])
    ∙ ap (λ xs. items (take at ps) ++ xs) (append-nil (items_of p)) in
    n ∙ ap (λ bs. bs ++ text) i ∙ ap (λ bs. sources (items (take at ps)) ++ bs) (t ∙ sym (source_by p.form (call_of_origin p.origin) (bytes_of p.text)))
    ∙ sym (flat_map-append source (items (take at ps)) (items_of p)) ∙ ap sources (sym one)
