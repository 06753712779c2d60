-- The place of a refusal.
use Rattle.std.proofs.Common.{◌≡◌, ℕ, zero, suc, ◌+◌, ◌<◌, ◌≤◌, true, false, Result, Ok, Err, List, [], ◌∷◌, ◌++◌, length, take, refl, sym, ap, ◌∙◌, subst, arith}
use Rattle.std.proofs.lemmas.List.{append-nil, take_all}
use Rattle.wt_html_grammar.specs.declared.why.HtmlWhy.{HtmlWhy}
use Rattle.wt_html_grammar.specs.declared.why.HtmlWhy.TheVariants.{End}
use Rattle.wt_html_grammar.specs.Grammar.{Well, Front}
use Rattle.wt_html_grammar.specs.Machine.{State, start, first, doctype, inside, less, naming, gap, attribute, named_so, equals, value, valued, slashed, closing, closed, escaping, step, mended, onward, run}
use Rattle.wt_html_grammar.specs.Places.{Refused, count_on, taken, is_accepted, why_in}
use Rattle.wt_html_grammar.proofs.Steps.{run_append}
use Rattle.wt_html_grammar.proofs.Reading.{well_read}
use Rattle.wt_html_grammar.proofs.Whole.{read_well, front_of, stopped}

onward_ok : (o : Result State HtmlWhy) → onward (λ t. Ok t) o ≡ o
onward_ok (Ok t) = refl
onward_ok (Err w) = refl

-- one byte more
pub run_push : (bytes : List ℕ) (b : ℕ) (s t : State) → run s bytes ≡ Ok t → run s (bytes ++ b ∷ []) ≡ mended b (step t b)
run_push bytes b s t e = run_append s bytes (b ∷ []) ∙ ap (onward (λ u. run u (b ∷ []))) e ∙ onward_ok (mended b (step t b))

pub run_err : (bytes more : List ℕ) (s : State) (w : HtmlWhy) → run s bytes ≡ Err w → run s (bytes ++ more) ≡ Err w
run_err bytes more s w e = run_append s bytes more ∙ ap (onward (λ u. run u more)) e

taken_on : (bs more : List ℕ) (t : State) → ((u : State) → run u bs ≡ Ok t → taken u (bs ++ more) ≡ length bs + taken t more) → (o : Result State HtmlWhy)
    → onward (λ u. run u bs) o ≡ Ok t → count_on (λ u. taken u (bs ++ more)) o ≡ suc (length bs) + taken t more
taken_on bs more t h (Ok u) e = omega (arith, h u e)
taken_on bs more t h (Err w) e = absurd cc

pub taken_append : (bytes more : List ℕ) (s t : State) → run s bytes ≡ Ok t → taken s (bytes ++ more) ≡ length bytes + taken t more
taken_append [] more s t e = let P : Result State HtmlWhy → Type 0 = λ o. count o ≡ 0 + taken t more in subst P (sym e) (omega arith)
  where
    count : Result State HtmlWhy → ℕ
    count (Ok u) = taken u more
    count (Err w) = 0
taken_append (b ∷ bs) more s t e = taken_on bs more t (λ u. taken_append bs more u t) (mended b (step s b)) e

err_on : (bs more : List ℕ) (w : HtmlWhy) → ((u : State) → run u bs ≡ Err w → taken u (bs ++ more) ≡ taken u bs) → (o : Result State HtmlWhy)
    → onward (λ u. run u bs) o ≡ Err w → count_on (λ u. taken u (bs ++ more)) o ≡ count_on (λ u. taken u bs) o
err_on bs more w h (Ok u) e = ap suc (h u e)
err_on bs more w h (Err v) e = refl

pub taken_err : (bytes more : List ℕ) (s : State) (w : HtmlWhy) → run s bytes ≡ Err w → taken s (bytes ++ more) ≡ taken s bytes
taken_err [] more s w e = absurd cc
taken_err (b ∷ bs) more s w e = err_on bs more w (λ u. taken_err bs more u w) (mended b (step s b)) e

pub taken_last : (bytes : List ℕ) (b : ℕ) (s t : State) (w : HtmlWhy) → run s bytes ≡ Ok t → mended b (step t b) ≡ Err w
    → taken s (bytes ++ b ∷ []) ≡ length bytes
taken_last bytes b s t w e f =
    let z : taken t (b ∷ []) ≡ 0 = ap (count_on (λ u. taken u [])) f in
    omega (arith, taken_append bytes (b ∷ []) s t e, z)

-- what it takes is run through
abbrev Runs : State → List ℕ → Type 0
Runs s bytes = (t : State) × (run s bytes ≡ Ok t)

runs_on : (b : ℕ) (bs : List ℕ) (s : State) → ((u : State) → Runs u (take (taken u bs) bs)) → (o : Result State HtmlWhy) → mended b (step s b) ≡ o
    → Runs s (take (count_on (λ u. taken u bs) o) (b ∷ bs))
runs_on b bs s h (Ok u) e = let r = h u in (r.0, ap (onward (λ v. run v (take (taken u bs) bs))) e ∙ r.1)
runs_on b bs s h (Err w) e = (s, refl)

taken_runs : (bytes : List ℕ) (s : State) → Runs s (take (taken s bytes) bytes)
taken_runs [] s = (s, refl)
taken_runs (b ∷ bs) s = runs_on b bs s (taken_runs bs) (mended b (step s b)) refl

within_on : (bs : List ℕ) → ((u : State) → taken u bs ≤ length bs) → (o : Result State HtmlWhy) → count_on (λ u. taken u bs) o ≤ suc (length bs)
within_on bs h (Ok u) = omega (arith, h u)
within_on bs h (Err w) = omega arith

taken_within : (bytes : List ℕ) (s : State) → taken s bytes ≤ length bytes
taken_within [] s = omega arith
taken_within (b ∷ bs) s = within_on bs (taken_within bs) (mended b (step s b))

-- beyond it stops
stops_on : (b : ℕ) (bs : List ℕ) (k : ℕ) (w : HtmlWhy)
    → ((u : State) → run u bs ≡ Err w → taken u bs < k → run u (take k bs) ≡ Err w) → (o : Result State HtmlWhy)
    → onward (λ u. run u bs) o ≡ Err w → count_on (λ u. taken u bs) o < suc k → onward (λ u. run u (take k bs)) o ≡ Err w
stops_on b bs k w h (Ok u) e lt = h u e (omega arith)
stops_on b bs k w h (Err v) e lt = e

stops : (bytes : List ℕ) (k : ℕ) (s : State) (w : HtmlWhy) → run s bytes ≡ Err w → taken s bytes < k → run s (take k bytes) ≡ Err w
stops [] k s w e lt = absurd cc
stops (b ∷ bs) zero s w e lt = absurd (omega arith)
stops (b ∷ bs) (suc k) s w e lt = stops_on b bs k w (λ u. stops bs k u w) (mended b (step s b)) e lt

pub no_front : (bytes : List ℕ) (w : HtmlWhy) → run start bytes ≡ Err w → Front bytes → ⊥
no_front bytes w e f = stopped bytes [] w e (let P : List ℕ → Type 0 = Front in subst P (sym (append-nil bytes)) f)

ok_err : (o : Result State HtmlWhy) (w : HtmlWhy) (s : State) → o ≡ Err w → o ≡ Ok s → ⊥
ok_err (Ok t) w s e f = cc
ok_err (Err v) w s e f = cc

pub refused : (bytes : List ℕ) (w : HtmlWhy) → run start bytes ≡ Err w → Refused bytes (taken start bytes) w
refused bytes w e =
    let r = taken_runs bytes start in (
      record {
        ill = λ h. ok_err (run start bytes) w (inside []) e (well_read bytes h);
        within = taken_within bytes start;
        front = front_of (take (taken start bytes) bytes) r.0 r.1;
        longest = λ k lt le f. no_front (take k bytes) w (stops bytes k start w e lt) f;
      },
      sym (ap why_in e),
    )

ok_ok : (o : Result State HtmlWhy) (s t : State) → o ≡ Ok s → o ≡ Ok t → s ≡ t
ok_ok (Ok u) s t e f = cc
ok_ok (Err w) s t e f = cc

-- all was taken, and more is to come
pub cut_off : (bytes : List ℕ) (s : State) → run start bytes ≡ Ok s → is_accepted s ≡ false → Refused bytes (length bytes) End
cut_off bytes s e n = (
  record {
    ill = λ h. (let f : false ≡ true = sym n ∙ ap is_accepted (ok_ok (run start bytes) s (inside []) e (well_read bytes h)) in cc);
    within = omega arith;
    front = let P : List ℕ → Type 0 = Front in subst P (sym (take_all (length bytes) bytes (omega arith))) (front_of bytes s e);
    longest = λ k lt le f. absurd (omega arith);
  },
  sym (ap why_in e),
)

accepted : (s : State) → is_accepted s ≡ true → s ≡ inside []
accepted (inside []) e = refl
accepted (inside (n ∷ ns)) e = cc
accepted start e = cc
accepted first e = cc
accepted (doctype cs) e = cc
accepted (less ns) e = cc
accepted (naming ns n) e = cc
accepted (gap t) e = cc
accepted (attribute t a) e = cc
accepted (named_so t) e = cc
accepted (equals t) e = cc
accepted (value t q) e = cc
accepted (valued t) e = cc
accepted (slashed t) e = cc
accepted (closing cs ns) e = cc
accepted (closed ns) e = cc
accepted (escaping t a) e = cc

pub well_of : (bytes : List ℕ) (s : State) → run start bytes ≡ Ok s → is_accepted s ≡ true → Well bytes
well_of bytes s e h = read_well bytes (e ∙ ap Ok (accepted s h))
