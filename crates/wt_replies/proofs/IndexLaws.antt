-- An index with one more entry.
use Rattle.std.proofs.Common.{◌≡◌, ℕ, ◌+◌, ◌<◌, Bool, true, false, List, [], ◌∷◌, ◌++◌, Option, Some, None, length, take, get_or, refl, sym, ap, ◌∙◌}
use Rattle.std.specs.Prelude.{cond, is_some}
use Rattle.std.specs.Map.{update}
use Rattle.std.specs.Option.{option_or}
use Rattle.std.specs.Str.{bytes_eq}
use Rattle.std.proofs.lemmas.List.{take_more}
use Rattle.std.proofs.lemmas.List.Folds.{find-append}
use Rattle.std.proofs.lemmas.Slice.Eq.{bytes_eq-Decides}
use Rattle.wt_replies.specs.declared.table.Page.{Page}
use Rattle.wt_replies.specs.Tables.{Entries, entry_of, or_else}

-- put where there is no entry of its name
pub put : (entries : Entries) (page : Page) → is_some (entries page.name.now) ≡ false → (name : List ℕ)
    → update bytes_eq entries page.name.now (Some page) name ≡ or_else entries page name
put entries page none name = by (bytes_eq page.name.now name) refl (entries name) refl
  where
    by : (same : Bool) → bytes_eq page.name.now name ≡ same → (found : Option Page) → entries name ≡ found
        → cond same (Some page) found ≡ option_or found (cond same (Some page) None)
    by true e (Some other) f = let z : false ≡ true = sym none ∙ ap (λ n. is_some (entries n)) ((bytes_eq-Decides page.name.now name).0 e) ∙ ap (λ o. is_some o) f in cc
    by true e None f = refl
    by false e (Some other) f = refl
    by false e None f = refl

-- left as it was where there is one
pub left : (entries : Entries) (page : Page) → is_some (entries page.name.now) ≡ true → (name : List ℕ)
    → entries name ≡ or_else entries page name
left entries page some name = by (bytes_eq page.name.now name) refl (entries name) refl
  where
    by : (same : Bool) → bytes_eq page.name.now name ≡ same → (found : Option Page) → entries name ≡ found
        → found ≡ option_or found (cond same (Some page) None)
    by same e (Some other) f = refl
    by true e None f =
        let z : true ≡ false = sym some ∙ ap (λ n. is_some (entries n)) ((bytes_eq-Decides page.name.now name).0 e) ∙ ap (λ o. is_some o) f in cc
    by false e None f = refl

-- one turn of the loop over the table
pub taken : (entries next : Entries) (pages : List Page) (i : ℕ) (page : Page) → i < length pages → page ≡ get_or pages i page
    → ((name : List ℕ) → entries name ≡ entry_of (take i pages) name) → ((name : List ℕ) → next name ≡ or_else entries page name)
    → (name : List ℕ) → next name ≡ entry_of (take (i + 1) pages) name
taken entries next pages i page below is before after name =
    after name
    ∙ ap (λ found. option_or found (entry_of (page ∷ []) name)) (before name)
    ∙ sym (find-append (λ it. bytes_eq it.name.now name) (take i pages) (page ∷ []))
    ∙ ap (λ it. entry_of (take i pages ++ it ∷ []) name) is
    ∙ ap (λ ps. entry_of ps name) (sym (take_more pages i page below))
