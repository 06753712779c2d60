-- Texts as they are read.
use Rattle.std.specs.Prelude.{◌≡◌, ℕ, Some, None, List, Result, Ok, Err, length, map}
use Rattle.std.specs.List.{All}
use Rattle.std.specs.Str.{IsUtf8}
use Rattle.wt_span.specs.declared.form.Mode.{Mode}
use Rattle.wt_span.specs.Lexemes.{words}
use Rattle.wt_span.specs.Braces.{CallAt, calls}
use Rattle.wt_lex.specs.Places.{word_of, Follow, AtBorders}
use Rattle.wt_braces.specs.declared.call.BraceRefusal.{BraceRefusal}
use Rattle.wt_braces.specs.declared.call.BraceRefusal.TheVariants as refusal
use Rattle.wt_braces.specs.Views.{part_of}
use Rattle.wt_expand.specs.Work.{deep_place}
use Rattle.wt_transclusion.specs.declared.read.Braces.{Braces}
use Rattle.wt_transclusion.specs.declared.read.ReadText.{ReadText}

abbrev pub braces_of : Braces → CallAt
braces_of b = record { argument = b.argument; from = b.at.start; to = b.at.end; parts = map part_of b.parts.now; parent = b.parent }

-- a text, read in this mode, with its lexemes and calls
pub record IsRead (mode : Mode) (text : List ℕ) (r : ReadText) : Type 0 where
  pub text_is : r.text.now ≡ text
  pub characters : IsUtf8 text
  pub words_are : map word_of r.lexemes.now ≡ words mode text
  pub follow : Follow 0 r.lexemes.now (length text)
  pub borders : All (AtBorders text) r.lexemes.now
  pub calls_are : map braces_of r.calls.now ≡ calls 0 (words mode text)

-- it is read, where none of its calls lies too deep; else the place of the leftmost one that does
abbrev pub AnswersText : Mode → List ℕ → Result ReadText BraceRefusal → Type 0
AnswersText mode text (Ok r) = IsRead mode text r × (deep_place mode text ≡ None)
AnswersText mode text (Err (refusal.BracesTooDeep place)) = deep_place mode text ≡ Some place
AnswersText mode text (Err refusal.NoMemory) = Unit {0}
