-- Which pages an edit asks its folder for.
use Rattle.std.specs.Prelude.{◌≡◌, ℕ, List, [], ◌++◌, Option, option_map, Result, Ok, Err}
use Rattle.wt_expand.specs.Expansion.{page_work}
use Rattle.wt_expand.specs.Fronts.{allowed_work}
use Rattle.wt_expand.specs.Work.{Pages, Entry}
use Rattle.wt_transclusion.specs.Asked.{AreFirst}
use Rattle.wt_transclusion.specs.Stops.{AnswersFewer}
use Rattle.wt_selser.specs.declared.refusal.EditRefusal.{EditRefusal as SpliceRefusal}
use Rattle.wt_edit.specs.declared.refusal.EditRefusal.{EditRefusal}
use Rattle.wt_edit.specs.declared.refusal.EditRefusal.TheVariants as refusal

-- ---- work

-- the work of a page, up to its first refusal
abbrev pub work_done : Pages → List ℕ → List Entry
work_done pages page = allowed_work pages page (page_work pages page)

-- the work for the new page, by what the splice answers: none where it is refused
abbrev pub new_work : Pages → Result (List ℕ) SpliceRefusal → List Entry
new_work pages (Ok new) = work_done pages new
new_work pages (Err e) = []

-- ---- names

-- these names, and then those
abbrev pub followed_by : Option (List (List ℕ)) → List (List ℕ) → Option (List (List ℕ))
followed_by before names = option_map (λ ns. ns ++ names) before

-- the folder answered all of these names, in their order and no others
abbrev pub AnswersAll : List (List ℕ) → Option (List (List ℕ)) → Option (List (List ℕ)) → Type 0
AnswersAll names before after = after ≡ followed_by before names

-- What the folder answered of the names since: all of them where the edit is refused; where the folder failed the first of them, and the
-- next one is that of the fetch that failed; where memory ran out the first of them, which may be all.
abbrev pub AsksErr : EditRefusal → List (List ℕ) → Option (List (List ℕ)) → Option (List (List ℕ)) → Type 0
AsksErr (refusal.Check c) names before after = AnswersAll names before after
AsksErr (refusal.BadContent n why) names before after = AnswersAll names before after
AsksErr (refusal.Tangled n) names before after = AnswersAll names before after
AsksErr refusal.NewPageTooLong names before after = AnswersAll names before after
AsksErr (refusal.NewExpansion e) names before after = AnswersAll names before after
AsksErr (refusal.Unspelled k) names before after = AnswersAll names before after
AsksErr refusal.FolderFault names before after = AnswersFewer names before after
AsksErr refusal.NoMemory names before after = AreFirst after (followed_by before names)

-- and all of them where it is done
abbrev pub AsksNames : {T : Type 0} → List (List ℕ) → Option (List (List ℕ)) → Option (List (List ℕ)) → Result T EditRefusal → Type 0
AsksNames names before after (Ok value) = AnswersAll names before after
AsksNames names before after (Err e) = AsksErr e names before after

-- memory ran out before the folder was asked for any page
abbrev pub RanOutFirst : {T : Type 0} → Option (List (List ℕ)) → Option (List (List ℕ)) → Result T EditRefusal → Type 0
RanOutFirst before after result = (result ≡ Err refusal.NoMemory) × (after ≡ before)
