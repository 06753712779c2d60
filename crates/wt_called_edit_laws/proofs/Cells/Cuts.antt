-- Texts that are cut anew in a cell: a block in it stays where it is, and what is before it and behind it is cut by itself.
use Rattle.std.proofs.Common.{◌≡◌, ℕ, Bool, true, false, Option, List, [], ◌∷◌, ◌++◌, length, refl, ap, ◌∙◌}
use Rattle.std.specs.Prelude.{◌&&◌, ◌||◌, if◌then◌else◌}
use Rattle.wt_tree.specs.declared.kind.Ranges.{Ranges}
use Rattle.wt_tree.specs.Leaves.{text_leaf, sep_leaf}
use Rattle.wt_recut.specs.Recut.{is_blank, has_break, is_text, shows_block, is_border, is_passed, leads_to_block, front_ranges, rest_ranges, joined_ranges, text_onto, onto, joined_texts, from_start, front_of, rest_of, parts_before, text_before, cut_before, cut_from, recut}
use Rattle.wt_tree.specs.Tree.{Tree, Trees, none, more, label}

-- ---- trees before others

abbrev pub beside : Trees → Trees → Trees
beside none us = us
beside (more t ts) us = more t (beside ts us)

-- ---- joining

text_beside : (r : Option Ranges) (own : List ℕ) (xs : Trees) (p : Tree) (ds : Trees) → is_text p ≡ false
    → text_onto r own (beside xs (more p ds)) ≡ beside (text_onto r own xs) (more p ds)
text_beside r [] xs p ds e = refl
text_beside r (b ∷ bs) none p ds e =
    ap (λ (v : Bool). if v then more (sep_leaf (joined_ranges r (label p).ranges) ((b ∷ bs) ++ (label p).own)) ds else more (sep_leaf r (b ∷ bs)) (more p ds)) e
text_beside r (b ∷ bs) (more x xs) p ds e = by_test (is_text x)
  where
    by_test : (v : Bool)
        → (if v then more (sep_leaf (joined_ranges r (label x).ranges) ((b ∷ bs) ++ (label x).own)) (beside xs (more p ds))
        else more (sep_leaf r (b ∷ bs)) (more x (beside xs (more p ds))))
        ≡ beside (if v then more (sep_leaf (joined_ranges r (label x).ranges) ((b ∷ bs) ++ (label x).own)) xs else more (sep_leaf r (b ∷ bs)) (more x xs)) (more p ds)
    by_test true = refl
    by_test false = refl

onto_beside : (t : Tree) (xs : Trees) (p : Tree) (ds : Trees) → is_text p ≡ false → onto t (beside xs (more p ds)) ≡ beside (onto t xs) (more p ds)
onto_beside t xs p ds e = by_test (is_text t)
  where
    by_test : (v : Bool) → (if v then text_onto (label t).ranges (label t).own (beside xs (more p ds)) else more t (beside xs (more p ds)))
        ≡ beside (if v then text_onto (label t).ranges (label t).own xs else more t xs) (more p ds)
    by_test true = text_beside (label t).ranges (label t).own xs p ds e
    by_test false = refl

pub joined_beside : (xs : Trees) (p : Tree) (ds : Trees) → is_text p ≡ false → joined_texts (beside xs (more p ds)) ≡ beside (joined_texts xs) (more p (joined_texts ds))
joined_beside none p ds e = ap (λ (v : Bool). if v then text_onto (label p).ranges (label p).own (joined_texts ds) else more p (joined_texts ds)) e
joined_beside (more t xs) p ds e = ap (onto t) (joined_beside xs p ds e) ∙ onto_beside t (joined_texts xs) p (joined_texts ds) e

-- ---- cutting, before a block

abbrev pub lead_in : Trees → Bool
lead_in none = true
lead_in (more t ts) = shows_block t || (is_passed t && lead_in ts)

abbrev pub front : Bool → Trees → Trees
front behind none = none
front behind (more t ts) = cut_before behind (lead_in ts) t (front (behind || is_border t) ts)

leads_in : (xs : Trees) (p : Tree) (ds : Trees) → shows_block p ≡ true → leads_to_block (beside xs (more p ds)) ≡ lead_in xs
leads_in none p ds e = ap (λ (b : Bool). b || (is_passed p && leads_to_block ds)) e
leads_in (more t xs) p ds e = ap (λ (b : Bool). shows_block t || (is_passed t && b)) (leads_in xs p ds e)

either_beside : (v : Bool) (ts us xs vs : Trees) → (if v then beside ts (beside xs vs) else beside us (beside xs vs)) ≡ beside (if v then beside ts xs else beside us xs) vs
either_beside true none us xs vs = refl
either_beside true (more t ts) us xs vs = ap (more t) (either_beside true ts us xs vs)
either_beside false ts none xs vs = refl
either_beside false ts (more u us) xs vs = ap (more u) (either_beside false ts us xs vs)

parts_beside : (r : Option Ranges) (fs rs : List ℕ) (xs us : Trees) → parts_before r fs rs (beside xs us) ≡ beside (parts_before r fs rs xs) us
parts_beside r fs [] xs us = refl
parts_beside r [] (b ∷ bs) xs us = refl
parts_beside r (c ∷ cs) (b ∷ bs) xs us =
    either_beside (is_blank (b ∷ bs)) (more (text_leaf (front_ranges (length (c ∷ cs)) r) (c ∷ cs)) (more (sep_leaf (rest_ranges (length (c ∷ cs)) r) (b ∷ bs)) none))
    (more (text_leaf r ((c ∷ cs) ++ (b ∷ bs))) none) xs us

before_beside : (behind leads : Bool) (t : Tree) (xs us : Trees) → cut_before behind leads t (beside xs us) ≡ beside (cut_before behind leads t xs) us
before_beside behind leads t xs us = by_test (is_text t)
  where
    by_test : (v : Bool) → (if v then text_before (from_start behind leads (label t).own) (label t).ranges (label t).own (beside xs us) else more t (beside xs us))
        ≡ beside (if v then text_before (from_start behind leads (label t).own) (label t).ranges (label t).own xs else more t xs) us
    by_test true =
        parts_beside (label t).ranges (front_of (from_start behind leads (label t).own) (label t).own) (rest_of (from_start behind leads (label t).own) (label t).own) xs us
    by_test false = refl

or_true : (b : Bool) → (b || true) ≡ true
or_true true = refl
or_true false = refl

pub cut_beside : (behind : Bool) (xs : Trees) (p : Tree) (ds : Trees) → is_text p ≡ false → shows_block p ≡ true
    → cut_from behind (beside xs (more p ds)) ≡ beside (front behind xs) (more p (cut_from true ds))
cut_beside behind none p ds e f =
    let leads : Bool = leads_to_block ds in
    let all : Bool = from_start behind leads (label p).own in
    ap (λ (v : Bool). if v then text_before all (label p).ranges (label p).own (cut_from (behind || (if v then has_break (label p).own else shows_block p)) ds)
    else more p (cut_from (behind || (if v then has_break (label p).own else shows_block p)) ds)) e
    ∙ ap (λ (b : Bool). more p (cut_from (behind || b) ds)) f
    ∙ ap (λ (b : Bool). more p (cut_from b ds)) (or_true behind)
cut_beside behind (more t xs) p ds e f =
    let later : Bool = behind || is_border t in
    ap (λ (b : Bool). cut_before behind b t (cut_from later (beside xs (more p ds)))) (leads_in xs p ds f)
    ∙ ap (cut_before behind (lead_in xs) t) (cut_beside later xs p ds e f)
    ∙ before_beside behind (lead_in xs) t (front later xs) (more p (cut_from true ds))

-- what is before a block, and what is behind one
abbrev pub cut_front : Trees → Trees
cut_front xs = front false (joined_texts xs)

abbrev pub cut_back : Trees → Trees
cut_back ds = cut_from true (joined_texts ds)

pub recut_round : (xs : Trees) (p : Tree) (ds : Trees) → is_text p ≡ false → shows_block p ≡ true
    → recut (beside xs (more p ds)) ≡ beside (cut_front xs) (more p (cut_back ds))
recut_round xs p ds e f = ap (cut_from false) (joined_beside xs p ds e) ∙ cut_beside false (joined_texts xs) p (joined_texts ds) e f
