-- The pages that were fetched.
use Rattle.std.specs.Prelude.{◌≡◌, ◌⊎◌, ℕ, Bool, true, false, Option, Some, None, option_map, List, [], ◌∷◌, ◌++◌, Result, Ok, Err, if◌then◌else◌}
use Rattle.std.specs.Str.{bytes_eq}
use Rattle.std.specs.BTreeMap.{get_by_text}
use Rattle.wt_expand.specs.Work.{Pages, found_refusal, is_among}
use Rattle.wt_transclusion.specs.declared.refusal.ExpandRefusal.{ExpandRefusal}
use Rattle.wt_transclusion.specs.declared.refusal.ExpandRefusal.TheVariants as answer
use Rattle.wt_transclusion.specs.declared.read.ReadText.{ReadText}
use Rattle.wt_transclusion.specs.declared.store.Store.{Store}
use Rattle.wt_transclusion.specs.Answers.{IsFetched, IsRefused}

-- what is known of a title, which was fetched or wasn't
abbrev pub IsKnown : Pages → List ℕ → Bool → Option (Option ReadText) → Type 0
IsKnown pages name false o = o ≡ None
IsKnown pages name true None = ⊥
IsKnown pages name true (Some found) = IsFetched name (pages name) found

-- the pages of these names are known, and no others
abbrev pub IsStore : Pages → List (List ℕ) → Store → Type 0
IsStore pages met s = (name : List ℕ) → IsKnown pages name (is_among name met) (get_by_text s.pages name)

-- ---- what the pages may be

-- the pages agree with what is known: each page that is known was read of what they have
abbrev pub Agrees : Pages → Store → Type 0
Agrees pages s = (name : List ℕ) (found : Option ReadText) → get_by_text s.pages name ≡ Some found → IsFetched name (pages name) found

-- there are pages that agree with what is known
abbrev pub HasPages : Store → Type 0
HasPages s = (pages : Pages) × Agrees pages s

-- what was known is still known, and the same
abbrev pub IsKept : Store → Store → Type 0
IsKept old new = (name : List ℕ) (found : Option ReadText) → get_by_text old.pages name ≡ Some found → get_by_text new.pages name ≡ Some found

-- The pages of which an answer speaks: any that agree with what is known in the end; for a refusal those that the folder tells.
abbrev pub Concerns : {A : Type 0} → Option Pages → Pages → Store → Result A ExpandRefusal → Type 0
Concerns told pages new (Ok x) = Agrees pages new
Concerns told pages new (Err e) = told ≡ Some pages

-- Pages were fetched from a folder that tells these, or tells none: nothing that was known is lost; pages that the folder tells
-- agree with what is known as they did; and some pages do, if any did.
pub record Grows (told : Option Pages) (old new : Store) : Type 0 where
  pub kept : IsKept old new
  pub agrees : (pages : Pages) → told ≡ Some pages → Agrees pages old → Agrees pages new
  pub has : HasPages old → HasPages new

-- ---- one more page

-- this page is known under this name, and else what was known
abbrev pub Keeps : List ℕ → Option ReadText → Store → Store → Type 0
Keeps full found old new = (name : List ℕ) → get_by_text new.pages name ≡ (if bytes_eq full name then Some found else get_by_text old.pages name)

-- the names with one more, if it isn't among them
abbrev pub met_with : List ℕ → List (List ℕ) → List (List ℕ)
met_with name met = if is_among name met then met else name ∷ met

-- what the folder has answered, after this name was asked for where it isn't known
abbrev pub named_with : List ℕ → List (List ℕ) → Option (List (List ℕ)) → Option (List (List ℕ))
named_with name met answered = if is_among name met then answered else option_map (λ names. names ++ name ∷ []) answered

-- The names answered where the page of a name was asked for and isn't read: those with this name where the page is refused, those of before
-- where the folder failed, and the ones or the others where memory is missing.
abbrev pub TellsErr : Option (List (List ℕ)) → Option (List (List ℕ)) → Option (List (List ℕ)) → ExpandRefusal → Type 0
TellsErr before with_name now (answer.BracesTooDeep title place) = now ≡ with_name
TellsErr before with_name now answer.TooLarge = now ≡ with_name
TellsErr before with_name now answer.FolderFault = now ≡ before
TellsErr before with_name now (answer.TemplateNotUtf8 title place) = now ≡ with_name
TellsErr before with_name now (answer.TemplateTooLong title) = now ≡ with_name
TellsErr before with_name now answer.NoMemory = (now ≡ before) ⊎ (now ≡ with_name)

abbrev pub Tells : {A : Type 0} → Option (List (List ℕ)) → Option (List (List ℕ)) → Option (List (List ℕ)) → Result A ExpandRefusal → Type 0
Tells before with_name now (Ok x) = now ≡ with_name
Tells before with_name now (Err e) = TellsErr before with_name now e

-- a title's page is read; or it is refused, and wasn't fetched before
abbrev pub AnswersTitle : Pages → List (List ℕ) → List ℕ → Store → Result (Option ReadText) ExpandRefusal → Type 0
AnswersTitle pages met name new (Ok found) = IsFetched name (pages name) found × IsStore pages (met_with name met) new
AnswersTitle pages met name new (Err e) = IsRefused (found_refusal name (pages name)) e
