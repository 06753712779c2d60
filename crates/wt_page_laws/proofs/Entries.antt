-- What entries have under a name, and which front of a page is given.
use Rattle.std.proofs.Common.{arith, ◌≡◌, ◌≢◌, ◌↔◌, ℕ, zero, suc, ◌≤◌, Bool, true, false, List, [], ◌∷◌, ◌++◌, Option, Some, None, length, take, drop, refl, sym, ap, ◌∙◌, subst, inl, inr, ◌⊎◌, append-nil}
use Rattle.std.specs.Prelude.{All, option_map, nat_le, min}
use Rattle.std.proofs.lemmas.Bool.Decides.{nat_tests}
use Rattle.std.specs.Bool.{Decides}
use Rattle.std.specs.Str.{bytes_eq}
use Rattle.std.proofs.lemmas.List.{take-append-drop, take_all, length-take, drop_all}
use Rattle.std.proofs.Math.Seq.{take-append_seam}
use Rattle.std.proofs.lemmas.Slice.Eq.{bytes_eq-Decides}
use Rattle.wt_devices.specs.Device.{Pages, Gives}
use Rattle.wt_devices.specs.Shelf.{look_up, ArePagesOf}
use Rattle.wt_devices.specs.declared.device.Fetched.TheVariants.{Found}
use Rattle.wt_page_laws.specs.Folders.{IsFirstNamed, NoneIsNamed, IsFrontOfPage}

abbrev Entry : Type 0
Entry = List ℕ × List ℕ

-- ---- one entry

is_same : (name other : List ℕ) → name ≡ other → bytes_eq name other ≡ true
is_same name other e = by (bytes_eq name other) (bytes_eq-Decides name other)
  where
    by : (v : Bool) → Decides v (name ≡ other) → v ≡ true
    by true d = refl
    by false d = d.1 e

is_other : (name other : List ℕ) → (name ≡ other → ⊥) → bytes_eq name other ≡ false
is_other name other h = by (bytes_eq name other) (bytes_eq-Decides name other)
  where
    by : (v : Bool) → Decides v (name ≡ other) → v ≡ false
    by true d = absurd (h (d.0 refl))
    by false d = refl

here : (e : Entry) (es : List Entry) (name : List ℕ) → e.0 ≡ name → look_up (e ∷ es) name ≡ Some e.1
here e es name h = rw (is_same e.0 name h) refl

later : (e : Entry) (es : List Entry) (name : List ℕ) → (e.0 ≡ name → ⊥) → look_up (e ∷ es) name ≡ look_up es name
later e es name h = rw (is_other e.0 name h) refl

-- ---- the first entry of a name

first_is : (es : List Entry) (name page : List ℕ) → look_up es name ≡ Some page → IsFirstNamed es name page
first_is [] name page e = cc
first_is (x ∷ es) name page e = by (bytes_eq x.0 name) (bytes_eq-Decides x.0 name) (first_is es name page)
  where
    by : (v : Bool) → Decides v (x.0 ≡ name) → (look_up es name ≡ Some page → IsFirstNamed es name page) → IsFirstNamed (x ∷ es) name page
    by true d g =
        let s : x.0 ≡ name = d.0 refl in
        let p : x.1 ≡ page = let h = here x es name s in cc in
        record { before = []; behind = es; whole = ap (λ (a : List ℕ). (a, x.1) ∷ es) s ∙ ap (λ (b : List ℕ). (name, b) ∷ es) p; first = tt }
    by false d g =
        let s : x.0 ≡ name → ⊥ = λ (h : x.0 ≡ name). let t : false ≡ true = d.1 h in cc in
        let f = g (sym (later x es name s) ∙ e) in
        record { before = x ∷ f.before; behind = f.behind; whole = ap (λ (l : List Entry). x ∷ l) f.whole; first = (s, f.first) }

is_first : (before behind : List Entry) (name page : List ℕ) → NoneIsNamed name before → look_up (before ++ (name, page) ∷ behind) name ≡ Some page
is_first [] behind name page h = here (name, page) behind name refl
is_first (x ∷ before) behind name page h =
    later x (before ++ (name, page) ∷ behind) name h.0 ∙ is_first before behind name page h.1

pub first_named : (entries : List Entry) → (name page : List ℕ) → (look_up entries name ≡ Some page) ↔ (IsFirstNamed entries name page)
first_named entries name page = (
  first_is entries name page,
  λ f. ap (λ (l : List Entry). look_up l name) f.whole ∙ is_first f.before f.behind name page f.first,
)

-- ---- no entry of a name

none_there : (es : List Entry) (name : List ℕ) → look_up es name ≡ None → NoneIsNamed name es
none_there [] name e = tt
none_there (x ∷ es) name e =
    let s : x.0 ≡ name → ⊥ = λ (h : x.0 ≡ name). let t = here x es name h in cc in
    (s, none_there es name (sym (later x es name s) ∙ e))

there_none : (es : List Entry) (name : List ℕ) → NoneIsNamed name es → look_up es name ≡ None
there_none [] name h = refl
there_none (x ∷ es) name h = later x es name h.0 ∙ there_none es name h.1

pub none_named : (entries : List Entry) → (name : List ℕ) → (look_up entries name ≡ None) ↔ (NoneIsNamed name entries)
none_named entries name = (none_there entries name, there_none entries name)

-- ---- one folder

none_all : (es : List Entry) (name : List ℕ) → NoneIsNamed name es → All (λ (e : Entry). e.0 ≢ name) es
none_all [] name h k d lt = absurd (omega arith)
none_all (x ∷ es) name h zero d lt = h.0
none_all (x ∷ es) name h (suc k) d lt = none_all es name h.1 k d (omega arith)

-- what holds of all holds of the one behind some
all_at : (P : Entry → Type 0) (before : List Entry) (x : Entry) (behind : List Entry) → All P (before ++ x ∷ behind) → P x
all_at P [] x behind h = h 0 x (omega arith)
all_at P (y ∷ before) x behind h = all_at P before x behind (λ k d lt. h (suc k) d (omega arith))

pub one_folder : (entries : List Entry) → (pages : Pages) → ArePagesOf entries pages → (name : List ℕ) → pages name ≡ look_up entries name
one_folder entries pages are name = by (look_up entries name) refl
  where
    by : (o : Option (List ℕ)) → look_up entries name ≡ o → pages name ≡ look_up entries name
    by None e = are.absent name (none_all entries name (none_there entries name e)) ∙ sym e
    by (Some page) e =
        let f = first_is entries name page e in
        all_at (λ (x : Entry). pages x.0 ≡ Some x.1) f.before (name, page) f.behind
        (subst (λ (l : List Entry). All (λ (x : Entry). pages x.0 ≡ Some x.1) l) f.whole are.found) ∙ sym e

-- ---- a front of a page

whole_or_cut : (most : ℕ) (page bytes : List ℕ) → bytes ≡ take most page → (drop most page ≡ []) ⊎ (length bytes ≡ most)
whole_or_cut most page bytes same = by (nat_le (length page) most) refl
  where
    m : length (take most page) ≡ min most (length page)
    m = length-take most page

    by : (v : Bool) → nat_le (length page) most ≡ v → (drop most page ≡ []) ⊎ (length bytes ≡ most)
    by true e = inl (drop_all most page (grind (arith, nat_tests)))
    by false e = inr (ap length same ∙ m ∙ (grind (arith, nat_tests)))

given_front : (pages : Pages) (name : List ℕ) (most : ℕ) (bytes : List ℕ) (o : Option (List ℕ)) → pages name ≡ o
    → Some bytes ≡ option_map (take most) o → IsFrontOfPage pages name most bytes
given_front pages name most bytes None i e = cc
given_front pages name most bytes (Some page) i e =
    let same : bytes ≡ take most page = cc in
    record {
      rest = drop most page;
      found = i ∙ ap Some (sym (take-append-drop most page) ∙ ap (λ (l : List ℕ). l ++ drop most page) (sym same));
      within = subst (λ (l : List ℕ). length l ≤ most) (sym same) (let m = length-take most page in omega arith);
      whole = whole_or_cut most page bytes same;
    }

front_given : (pages : Pages) (name : List ℕ) (most : ℕ) (bytes : List ℕ) → IsFrontOfPage pages name most bytes → Gives (Some pages) name most (Found bytes)
front_given pages name most bytes f = rw f.found (ap Some (by f.rest f.whole))
  where
    by : (rest : List ℕ) → ((rest ≡ []) ⊎ (length bytes ≡ most)) → bytes ≡ take most (bytes ++ rest)
    by rest (inl e) = rw (e, append-nil) (sym (take_all most bytes f.within))
    by rest (inr e) = rw (← e) (sym (take-append_seam bytes rest))

pub fronts : (pages : Pages) → (name : List ℕ) → (most : ℕ) → (bytes : List ℕ) → (Gives (Some pages) name most (Found bytes)) ↔ (IsFrontOfPage pages name most bytes)
fronts pages name most bytes = (given_front pages name most bytes (pages name) refl, front_given pages name most bytes)
