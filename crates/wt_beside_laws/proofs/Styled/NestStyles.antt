-- The styles of segments among which styles nest: each from its own delimiter to its own.
use Rattle.std.proofs.Common.{arith, ◌≡◌, ℕ, ◌+◌, Bool, true, false, not, List, [], ◌∷◌, ◌++◌, length, refl, ap, ◌∙◌, Option}
use Rattle.wt_quotes.specs.declared.chunk.Chunk.{Chunk}
use Rattle.wt_quotes.specs.declared.turn.PlacedToggle.{PlacedToggle}
use Rattle.wt_quotes.specs.declared.style.End.{End}
use Rattle.wt_quotes.specs.declared.style.Style.{Style}
use Rattle.wt_quotes.specs.Runs.{bytes_of}
use Rattle.wt_quotes.specs.Styles.{width, ending, styles_by, style_tree_of}
use Rattle.wt_quotes.specs.Toggles.{toggles_of}
use Rattle.wt_quotes.proofs.SixStates.{Step, step, run}
use Rattle.wt_quotes.proofs.Reading.{steps_of, styles_read}
use Rattle.wt_context.specs.Segments.{Segment}
use Rattle.wt_context.specs.Chunks.{chunks}
use Rattle.wt_beside_laws.specs.Nests.{Nest, stretch, enclosing, segments_of, nest_segments, IsNest}
use Rattle.wt_beside_laws.proofs.Styled.NestRuns.{nest_length, delimiters}
use Rattle.wt_beside_laws.proofs.Styled.NestToggles.{Matches, nest_steps}

-- a style of so many segments inside, from this place on
abbrev pub style_at : Bool → ℕ → ℕ → Style
style_at kind p m = record { bold = kind; from = p; open_w = width kind; to = p + width kind + m + width kind; close_w = width kind }

-- the styles of a nest from a place on, before others
abbrev pub nest_styles : ℕ → Nest → List Style → List Style
nest_styles at (stretch us) ss = ss
nest_styles at (enclosing origin us kind inside after) ss =
    style_at kind (at + length us) (nest_length inside) ∷ nest_styles (at + length us + width kind) inside
    (nest_styles (at + length us + width kind + nest_length inside + width kind) after ss)

-- ---- what is open

pub data State : Type 0 where
  unstyled : State
  in_bold : State
  in_italic : State
  in_both : Bool → State

abbrev run_in : State → List Step → List PlacedToggle
run_in unstyled rs = run false false false rs
run_in in_bold rs = run true false false rs
run_in in_italic rs = run false true false rs
run_in (in_both bold_outside) rs = run true true bold_outside rs

-- where a style is opened that isn't open
abbrev entered : Bool → State → State
entered true unstyled = in_bold
entered false unstyled = in_italic
entered true in_bold = in_bold
entered false in_bold = in_both true
entered true in_italic = in_both false
entered false in_italic = in_italic
entered true (in_both o) = in_both o
entered false (in_both o) = in_both o

abbrev is_open : Bool → State → Bool
is_open true unstyled = false
is_open false unstyled = false
is_open true in_bold = true
is_open false in_bold = false
is_open true in_italic = false
is_open false in_italic = true
is_open true (in_both o) = true
is_open false (in_both o) = true

-- ---- a style is opened, and closed

abbrev style_to : Bool → ℕ → End → Style
style_to kind p e = record { bold = kind; from = p; open_w = width kind; to = e.to; close_w = e.close_w }

record Facts (total : ℕ) (st : State) (kind : Bool) : Type 0 where
  opened : (s : ℕ) (f : Bool) (rs : List Step) → styles_by total (run_in st (step s kind (not kind) f ∷ rs))
      ≡ style_to kind s (ending kind total (run_in (entered kind st) rs)) ∷ styles_by total (run_in (entered kind st) rs)
  closed : (s : ℕ) (f : Bool) (rs : List Step) → styles_by total (run_in (entered kind st) (step s kind (not kind) f ∷ rs)) ≡ styles_by total (run_in st rs)
  ends : (s : ℕ) (f : Bool) (rs : List Step)
      → ending kind total (run_in (entered kind st) (step s kind (not kind) f ∷ rs)) ≡ record { to = s + width kind; close_w = width kind }
  past : (k : Bool) → is_open k st ≡ true → (s : ℕ) (f : Bool) (rs : List Step)
      → ending k total (run_in st (step s kind (not kind) f ∷ rs)) ≡ ending k total (run_in (entered kind st) rs)
  back : (k : Bool) → is_open k st ≡ true → (s : ℕ) (f : Bool) (rs : List Step)
      → ending k total (run_in (entered kind st) (step s kind (not kind) f ∷ rs)) ≡ ending k total (run_in st rs)
  own : is_open kind (entered kind st) ≡ true
  kept : (k : Bool) → is_open k st ≡ true → is_open k (entered kind st) ≡ true

never_open : (k : Bool) → is_open k unstyled ≡ true → ⊥
never_open true e = cc
never_open false e = cc

from_here : (total : ℕ) (kind : Bool) (s : ℕ) (e : End) (ss : List Style) → style_to kind (s + 0) e ∷ ss ≡ style_to kind s e ∷ ss
from_here total kind s e ss = let z : s + 0 ≡ s = omega arith in ap (λ (m : ℕ). style_to kind m e ∷ ss) z

bold_opened : (total s : ℕ) (f : Bool) (rs : List Step) → styles_by total (run false false false (step s true false f ∷ rs))
    ≡ style_to true s (ending true total (run true false false rs)) ∷ styles_by total (run true false false rs)
bold_opened total s true rs = from_here total true s (ending true total (run true false false rs)) (styles_by total (run true false false rs))
bold_opened total s false rs = from_here total true s (ending true total (run true false false rs)) (styles_by total (run true false false rs))

italic_opened : (total s : ℕ) (f : Bool) (rs : List Step) → styles_by total (run false false false (step s false true f ∷ rs))
    ≡ style_to false s (ending false total (run false true false rs)) ∷ styles_by total (run false true false rs)
italic_opened total s true rs = from_here total false s (ending false total (run false true false rs)) (styles_by total (run false true false rs))
italic_opened total s false rs = from_here total false s (ending false total (run false true false rs)) (styles_by total (run false true false rs))

bold_first : (total : ℕ) → Facts total unstyled true
bold_first total = record {
  opened = bold_opened total;
  closed = λ s f rs. refl;
  ends = λ s f rs. refl;
  past = λ k e s f rs. absurd (never_open k e);
  back = λ k e s f rs. absurd (never_open k e);
  own = refl;
  kept = λ k e. absurd (never_open k e);
}

italic_first : (total : ℕ) → Facts total unstyled false
italic_first total = record {
  opened = italic_opened total;
  closed = λ s f rs. refl;
  ends = λ s f rs. refl;
  past = λ k e s f rs. absurd (never_open k e);
  back = λ k e s f rs. absurd (never_open k e);
  own = refl;
  kept = λ k e. absurd (never_open k e);
}

italic_second : (total : ℕ) → Facts total in_bold false
italic_second total = record {
  opened = λ s f rs. from_here total false s (ending false total (run true true true rs)) (styles_by total (run true true true rs));
  closed = λ s f rs. refl;
  ends = λ s f rs. refl;
  past = past_bold;
  back = back_bold;
  own = refl;
  kept = λ k e. both_open k;
}
  where
    both_open : (k : Bool) → is_open k (in_both true) ≡ true
    both_open true = refl
    both_open false = refl

    past_bold : (k : Bool) → is_open k in_bold ≡ true → (s : ℕ) (f : Bool) (rs : List Step)
        → ending k total (run true false false (step s false true f ∷ rs)) ≡ ending k total (run true true true rs)
    past_bold true e s f rs = refl
    past_bold false e s f rs = cc

    back_bold : (k : Bool) → is_open k in_bold ≡ true → (s : ℕ) (f : Bool) (rs : List Step)
        → ending k total (run true true true (step s false true f ∷ rs)) ≡ ending k total (run true false false rs)
    back_bold true e s f rs = refl
    back_bold false e s f rs = cc

bold_second : (total : ℕ) → Facts total in_italic true
bold_second total = record {
  opened = λ s f rs. from_here total true s (ending true total (run true true false rs)) (styles_by total (run true true false rs));
  closed = λ s f rs. refl;
  ends = λ s f rs. refl;
  past = past_italic;
  back = back_italic;
  own = refl;
  kept = λ k e. both_open k;
}
  where
    both_open : (k : Bool) → is_open k (in_both false) ≡ true
    both_open true = refl
    both_open false = refl

    past_italic : (k : Bool) → is_open k in_italic ≡ true → (s : ℕ) (f : Bool) (rs : List Step)
        → ending k total (run false true false (step s true false f ∷ rs)) ≡ ending k total (run true true false rs)
    past_italic true e s f rs = cc
    past_italic false e s f rs = refl

    back_italic : (k : Bool) → is_open k in_italic ≡ true → (s : ℕ) (f : Bool) (rs : List Step)
        → ending k total (run true true false (step s true false f ∷ rs)) ≡ ending k total (run false true false rs)
    back_italic true e s f rs = cc
    back_italic false e s f rs = refl

-- ---- the styles of a nest, and what is open behind it

record ReadNest (total : ℕ) (st : State) (at : ℕ) (n : Nest) (ws : List (ℕ × Bool)) (rs : List Step) : Type 0 where
  rest : List Step
  matches : Matches ws rest
  styles : styles_by total (run_in st rs) ≡ nest_styles at n (styles_by total (run_in st rest))
  ends : (k : Bool) → is_open k st ≡ true → ending k total (run_in st rs) ≡ ending k total (run_in st rest)

same_step : (s p : ℕ) (b kind i f : Bool) → s ≡ p → b ≡ kind → i ≡ not kind → step s b i f ≡ step p kind (not kind) f
same_step s p b kind i f e g h = ap (λ (x : ℕ). step x b i f) e ∙ ap (λ (x : Bool). step p x i f) g ∙ ap (λ (x : Bool). step p kind x f) h

-- up to the closing delimiter at the place r
record Shut (total : ℕ) (st : State) (kind : Bool) (q r : ℕ) (inside : Nest) (ws : List (ℕ × Bool)) (rs : List Step) : Type 0 where
  rest : List Step
  matches : Matches ws rest
  styles : styles_by total (run_in (entered kind st) rs) ≡ nest_styles q inside (styles_by total (run_in st rest))
  own : ending kind total (run_in (entered kind st) rs) ≡ record { to = r + width kind; close_w = width kind }
  ends : (k : Bool) → is_open k st ≡ true → ending k total (run_in (entered kind st) rs) ≡ ending k total (run_in st rest)

shut_by : (total : ℕ) (st : State) (kind : Bool) (f : Facts total st kind) (q r : ℕ) (inside : Nest) (ws : List (ℕ × Bool)) (rs rest : List Step)
    → Matches ((r, kind) ∷ ws) rest
    → styles_by total (run_in (entered kind st) rs) ≡ nest_styles q inside (styles_by total (run_in (entered kind st) rest))
    → ((k : Bool) → is_open k (entered kind st) ≡ true → ending k total (run_in (entered kind st) rs) ≡ ending k total (run_in (entered kind st) rest))
    → Shut total st kind q r inside ws rs
shut_by total st kind f q r inside ws rs [] m i e = absurd m
shut_by total st kind f q r inside ws rs (step s b a g ∷ rest) m i e =
    let is : step s b a g ≡ step r kind (not kind) g = same_step s r b kind a g m.0 m.1 m.2 in
    record {
      rest = rest;
      matches = m.3;
      styles = i ∙ ap (λ x. nest_styles q inside (styles_by total (run_in (entered kind st) (x ∷ rest)))) is ∙ ap (nest_styles q inside) (f.closed r g rest);
      own = e kind f.own ∙ ap (λ x. ending kind total (run_in (entered kind st) (x ∷ rest))) is ∙ f.ends r g rest;
      ends = λ k o. e k (f.kept k o) ∙ ap (λ x. ending k total (run_in (entered kind st) (x ∷ rest))) is ∙ f.back k o r g rest;
    }

enclosed : (origin : Option ℕ) (total : ℕ) (st : State) (kind : Bool) (f : Facts total st kind) (us : List Segment) (inside after : Nest) (at : ℕ) (ws : List (ℕ × Bool)) (rs : List Step)
    → Matches (delimiters at (enclosing origin us kind inside after) ws) rs
    → ((os : List Step) → Matches (delimiters (at + length us + width kind) inside ((at + length us + width kind + nest_length inside, kind)
    ∷ delimiters (at + length us + width kind + nest_length inside + width kind) after ws)) os
    → ReadNest total (entered kind st) (at + length us + width kind) inside ((at + length us + width kind + nest_length inside, kind)
    ∷ delimiters (at + length us + width kind + nest_length inside + width kind) after ws) os)
    → ((os : List Step) → Matches (delimiters (at + length us + width kind + nest_length inside + width kind) after ws) os
    → ReadNest total st (at + length us + width kind + nest_length inside + width kind) after ws os)
    → ReadNest total st at (enclosing origin us kind inside after) ws rs
enclosed origin total st kind f us inside after at ws [] m g h = absurd m
enclosed origin total st kind f us inside after at ws (step s b i fl ∷ rs) m g h =
    let p : ℕ = at + length us in
    let q : ℕ = p + width kind in
    let r : ℕ = q + nest_length inside in
    let a = g rs m.3 in
    let c = shut_by total st kind f q r inside (delimiters (r + width kind) after ws) rs a.rest a.matches a.styles a.ends in
    let d = h c.rest c.matches in
    let is : step s b i fl ≡ step p kind (not kind) fl = same_step s p b kind i fl m.0 m.1 m.2 in
    record {
      rest = d.rest;
      matches = d.matches;
      styles = ap (λ x. styles_by total (run_in st (x ∷ rs))) is
          ∙ f.opened p fl rs
          ∙ ap (λ (e : End). style_to kind p e ∷ styles_by total (run_in (entered kind st) rs)) c.own
          ∙ ap (λ ss. style_at kind p (nest_length inside) ∷ ss) (c.styles ∙ ap (nest_styles q inside) d.styles);
      ends = λ k o. ap (λ x. ending k total (run_in st (x ∷ rs))) is ∙ f.past k o p fl rs ∙ c.ends k o ∙ d.ends k o;
    }

read_nest : (total : ℕ) (st : State) (n : Nest) (vs : List Segment) (at : ℕ) (ws : List (ℕ × Bool)) (rs : List Step)
    → IsNest (is_open true st) (is_open false st) n vs → Matches (delimiters at n ws) rs → ReadNest total st at n ws rs
read_nest total st (stretch us) vs at ws rs h m = record { rest = rs; matches = m; styles = refl; ends = λ k o. refl }
read_nest total unstyled (enclosing origin us true inside after) vs at ws rs h m =
    enclosed origin total unstyled true (bold_first total) us inside after at ws rs m
    (λ os k. read_nest total in_bold inside (segments_of origin true ++ nest_segments after vs) _ _ os h.4 k) (λ os k. read_nest total unstyled after vs _ _ os h.6 k)
read_nest total unstyled (enclosing origin us false inside after) vs at ws rs h m =
    enclosed origin total unstyled false (italic_first total) us inside after at ws rs m
    (λ os k. read_nest total in_italic inside (segments_of origin false ++ nest_segments after vs) _ _ os h.4 k) (λ os k. read_nest total unstyled after vs _ _ os h.6 k)
read_nest total in_bold (enclosing origin us true inside after) vs at ws rs h m = let no : true ≡ false = h.2 in cc
read_nest total in_bold (enclosing origin us false inside after) vs at ws rs h m =
    enclosed origin total in_bold false (italic_second total) us inside after at ws rs m
    (λ os k. read_nest total (in_both true) inside (segments_of origin false ++ nest_segments after vs) _ _ os h.4 k) (λ os k. read_nest total in_bold after vs _ _ os h.6 k)
read_nest total in_italic (enclosing origin us true inside after) vs at ws rs h m =
    enclosed origin total in_italic true (bold_second total) us inside after at ws rs m
    (λ os k. read_nest total (in_both false) inside (segments_of origin true ++ nest_segments after vs) _ _ os h.4 k) (λ os k. read_nest total in_italic after vs _ _ os h.6 k)
read_nest total in_italic (enclosing origin us false inside after) vs at ws rs h m = let no : true ≡ false = h.2 in cc
read_nest total (in_both o) (enclosing origin us true inside after) vs at ws rs h m = let no : true ≡ false = h.2 in cc
read_nest total (in_both o) (enclosing origin us false inside after) vs at ws rs h m = let no : true ≡ false = h.2 in cc

none_left : (total : ℕ) (rs : List Step) → Matches [] rs → styles_by total (run_in unstyled rs) ≡ []
none_left total [] m = refl
none_left total (r ∷ rs) m = absurd m

pub nest_style_tree : (n : Nest) → IsNest false false n [] → style_tree_of (chunks (nest_segments n [])) ≡ nest_styles 0 n []
nest_style_tree n h =
    let cs : List Chunk = chunks (nest_segments n []) in
    let r = read_nest (bytes_of cs) unstyled n [] 0 [] (steps_of cs (toggles_of cs)) h (nest_steps n h) in
    styles_read cs ∙ r.styles ∙ ap (nest_styles 0 n) (none_left (bytes_of cs) r.rest r.matches)
