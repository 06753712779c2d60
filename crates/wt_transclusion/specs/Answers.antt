-- What the parts of an expansion answer.
use Rattle.std.specs.Prelude.{◌≡◌, ℕ, Option, Some, None, List, Result, Ok, Err}
use Rattle.wt_span.specs.declared.form.Mode.TheVariants as mode
use Rattle.wt_devices.specs.Device.{Rose}
use Rattle.wt_expand.specs.Templates.{template_text}
use Rattle.wt_expand.specs.Work.{Refused, braces_too_deep, too_large, not_utf8, too_long, template_refusal, found_refusal}
use Rattle.wt_transclusion.specs.declared.refusal.ExpandRefusal.{ExpandRefusal}
use Rattle.wt_transclusion.specs.declared.refusal.ExpandRefusal.TheVariants as answer
use Rattle.wt_transclusion.specs.declared.read.ReadText.{ReadText}
use Rattle.wt_transclusion.specs.Reads.{IsRead}

-- a refusal is the one that the definition finds; a fault of the folder and want of memory are none of its own
abbrev pub IsRefused : Option Refused → ExpandRefusal → Type 0
IsRefused o (answer.BracesTooDeep title place) = o ≡ Some (braces_too_deep title place)
IsRefused o answer.TooLarge = o ≡ Some too_large
IsRefused o answer.FolderFault = Unit {0}
IsRefused o (answer.TemplateNotUtf8 title place) = o ≡ Some (not_utf8 title place)
IsRefused o (answer.TemplateTooLong title) = o ≡ Some (too_long title)
IsRefused o answer.NoMemory = Unit {0}

abbrev pub IsNoFault : ExpandRefusal → Type 0
IsNoFault (answer.BracesTooDeep title place) = Unit {0}
IsNoFault answer.TooLarge = Unit {0}
IsNoFault answer.FolderFault = ⊥
IsNoFault (answer.TemplateNotUtf8 title place) = Unit {0}
IsNoFault (answer.TemplateTooLong title) = Unit {0}
IsNoFault answer.NoMemory = Unit {0}

-- the page of a title is read, or it is refused
abbrev pub AnswersTemplate : List ℕ → List ℕ → Result ReadText ExpandRefusal → Type 0
AnswersTemplate title bytes (Ok r) = IsRead mode.Template (template_text bytes) r × (template_refusal title bytes ≡ None)
AnswersTemplate title bytes (Err e) = IsRefused (template_refusal title bytes) e × IsNoFault e

-- what was fetched under a title, as it is read
abbrev pub IsFetched : List ℕ → Option (List ℕ) → Option ReadText → Type 0
IsFetched title None None = Unit {0}
IsFetched title None (Some r) = ⊥
IsFetched title (Some bytes) None = ⊥
IsFetched title (Some bytes) (Some r) = IsRead mode.Template (template_text bytes) r × (template_refusal title bytes ≡ None)

-- a page that was fetched under a title is read, or refused
abbrev pub AnswersFetch : List ℕ → Option (List ℕ) → Result (Option ReadText) ExpandRefusal → Type 0
AnswersFetch title page (Ok found) = IsFetched title page found
AnswersFetch title page (Err e) = IsRefused (found_refusal title page) e

-- the folder's count of faults rose where this is the answer, and else it stays
abbrev pub IsCountedErr : ℕ → ℕ → ExpandRefusal → Type 0
IsCountedErr before now (answer.BracesTooDeep title place) = now ≡ before
IsCountedErr before now answer.TooLarge = now ≡ before
IsCountedErr before now answer.FolderFault = Rose before now
IsCountedErr before now (answer.TemplateNotUtf8 title place) = now ≡ before
IsCountedErr before now (answer.TemplateTooLong title) = now ≡ before
IsCountedErr before now answer.NoMemory = now ≡ before

abbrev pub IsCounted : {A : Type 0} → ℕ → ℕ → Result A ExpandRefusal → Type 0
IsCounted before now (Ok x) = now ≡ before
IsCounted before now (Err e) = IsCountedErr before now e
