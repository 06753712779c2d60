-- The turns again, read off what is open before each toggle: the laws of styles are proved by cases on that.
use Rattle.std.proofs.Common.{◌≡◌, ℕ, ◌+◌, ◌≤◌, Bool, true, false, not, List, [], ◌∷◌, arith}
use Rattle.std.specs.Prelude.{◌&&◌, ◌||◌, if◌then◌else◌}
use Rattle.wt_quotes.specs.declared.turn.Effect.{Effect}
use Rattle.wt_quotes.specs.declared.turn.Effect.TheVariants.{Nothing, Opens, Closes, Breaks}
use Rattle.wt_quotes.specs.declared.turn.PlacedToggle.{PlacedToggle}
use Rattle.wt_quotes.specs.Styles.{taken}
use Rattle.wt_quotes.proofs.Fitting.{bytes_bits}

-- a toggle: its place, whether it switches bold and italic, and whether bold is outside where it opens both
pub data Step : Type 0 where
  step : ℕ → Bool → Bool → Bool → Step

-- what a toggle does to a style
abbrev pub effect_by : Bool → Bool → Bool → Effect
effect_by tog had broken = if tog then (if had then Closes else Opens) else (if broken then Breaks else Nothing)

abbrev pub outside_by : Bool → Bool → Bool → Bool → Bool
outside_by had_bold had_italic outside flag = if had_bold && had_italic then outside else (if had_bold || had_italic then false else flag)

abbrev pub made : Bool → Bool → Bool → Step → PlacedToggle
made had_bold had_italic outside (step s b i flag) = record {
  start = s;
  bold = effect_by b had_bold (i && ((had_bold && had_italic) && not outside));
  italic = effect_by i had_italic (b && ((had_bold && had_italic) && outside));
  bold_outside = outside_by had_bold had_italic outside flag;
}

abbrev pub toggled : Bool → Bool → Bool
toggled true had = not had
toggled false had = had

-- whether both are open behind a toggle, and bold is outside
abbrev pub outside_after : Bool → Bool → Bool → Bool → Bool → Bool
outside_after had_bold had_italic b i flag = (toggled b had_bold && toggled i had_italic) && (if had_bold then true else (if had_italic then false else flag))

abbrev pub run : Bool → Bool → Bool → List Step → List PlacedToggle
run had_bold had_italic outside [] = []
run had_bold had_italic outside (step s b i flag ∷ rs) =
    made had_bold had_italic outside (step s b i flag) ∷ run (toggled b had_bold) (toggled i had_italic) (outside_after had_bold had_italic b i flag) rs

-- the bytes of a toggle's delimiters
abbrev pub bytes_by : Bool → Bool → ℕ
bytes_by b i = (if b then 3 else 0) + (if i then 2 else 0)

-- toggles follow one another between two places, and each switches a style
abbrev pub AreSteps : ℕ → ℕ → List Step → Type 0
AreSteps low total [] = low ≤ total
AreSteps low total (step s b i flag ∷ rs) = (low ≤ s) × ((b || i) ≡ true) × AreSteps (s + bytes_by b i) total rs

pub steps_end : (low total : ℕ) (rs : List Step) → AreSteps low total rs → low ≤ total
steps_end low total [] h = h
steps_end low total (step s b i flag ∷ rs) h = omega (arith, h.0, steps_end (s + bytes_by b i) total rs h.2)

pub taken_by : (had_bold had_italic outside : Bool) (s : ℕ) (b i flag : Bool) → taken (made had_bold had_italic outside (step s b i flag)) ≡ bytes_by b i
taken_by had_bold had_italic outside s b i flag =
    let x = bytes_bits true b had_bold (i && ((had_bold && had_italic) && not outside)) in
    let y = bytes_bits false i had_italic (b && ((had_bold && had_italic) && outside)) in
    omega arith
