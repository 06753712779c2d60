-- The bytes of one lexeme in front of the next call: what they give, and the stretch behind them.
use Rattle.std.proofs.Common.{◌≡◌, ℕ, zero, suc, ◌+◌, ◌-◌, ◌≤◌, Bool, Option, None, List, [], ◌∷◌, ◌++◌, take, drop, refl, sym, ap, ◌∙◌, subst, arith, append_assoc, zero-add}
use Rattle.std.specs.Prelude.{replicate, slice_index}
use Rattle.std.proofs.lemmas.List.{drop-drop, get_or-drop}
use Rattle.wt_span.specs.declared.form.Mode.{Mode}
use Rattle.wt_span.specs.declared.form.Mode.TheVariants as mode
use Rattle.wt_span.specs.declared.form.LexKind.{LexKind}
use Rattle.wt_span.specs.declared.form.LexKind.TheVariants as lex
use Rattle.wt_span.specs.Bytes.{is_break}
use Rattle.wt_span.specs.Items.{Item, char}
use Rattle.wt_span.specs.Braces.{Member, lexeme, call, members, width_of_all, CallAt, calls_of_all}
use Rattle.wt_expand.specs.Expansion.{Output, Reading, just, then_output, joined, lexeme_items, chars, outputs_of}
use Rattle.wt_transclusion.specs.Marks.{Mark, opens, closes, word_marks, marks_of_all}
use Rattle.wt_transclusion.specs.Cursors.{starts}
use Rattle.wt_transclusion.specs.Steps.{given_from, IsCharacters, IsTaken, Leads, one_lexeme, one_more}
use Rattle.wt_transclusion.specs.Steps as steps
use Rattle.wt_transclusion.specs.Stretch.{AllFull, calls_before, BeginBehind, IsStretch}
use Rattle.wt_transclusion.proofs.StretchLaws.{before_more, behind_later}
use Rattle.wt_transclusion.proofs.StretchCuts.{stretch_back}

-- ---- one lexeme

pub first_gives : (t : List ℕ) (p n : ℕ) (kind : LexKind) (ys : List Member) (r : Reading) (s : Bool) → 1 ≤ n
    → given_from r s t p (lexeme (kind, n) ∷ ys)
    ≡ then_output (just (lexeme_items r.mode kind (take n (drop p t)))) (given_from r (starts t (p + n)) t (p + n) ys)
first_gives t p n kind ys r s l =
    let z : p + (n - 1) ≡ (p + n) - 1 = omega (arith, l) in
    let b : slice_index (drop p t) (n - 1) ≡ slice_index t ((p + n) - 1) = get_or-drop p t (n - 1) 0 ∙ ap (λ k. slice_index t k) z in
    let o = just (lexeme_items r.mode kind (take n (drop p t))) in
    ap (λ x. then_output o (joined (outputs_of r (is_break x) (drop n (drop p t)) (members ys)))) b
    ∙ ap (λ bs. then_output o (joined (outputs_of r (starts t (p + n)) bs (members ys)))) (drop-drop n p t)

pub whole_lexeme : (w : List Mark) (cs : List CallAt) (t : List ℕ) (kind : LexKind) (p n e : ℕ) (ys : List Member) → IsStretch w cs p e (lexeme (kind, n) ∷ ys)
    → IsTaken w cs t kind p (p + n) e (lexeme (kind, n) ∷ ys)
whole_lexeme w cs t kind p n e ys s =
    let z : p + (n + 0) ≡ p + n = omega arith in
    let d : n ≡ (p + n) - p = omega arith in
    record {
      left = ys;
      stretch = subst (λ k. IsStretch w cs k e ys) z (stretch_back w cs p e (lexeme (kind, n) ∷ []) ys s);
      leads = subst (λ k. Leads kind k (lexeme (kind, n) ∷ ys) ys) d (one_lexeme kind n ys);
      gives = λ r st. first_gives t p n kind ys r st s.full.0
          ∙ ap (λ k. then_output (just (lexeme_items r.mode kind (take k (drop p t)))) (given_from r (starts t (p + n)) t (p + n) ys)) d;
    }

-- ---- runs of braces

-- a run of either kind
pub data IsRun : LexKind → Mark → Type 0 where
  opening : IsRun lex.Opens opens
  closing : IsRun lex.Closes closes

run_chars : (kind : LexKind) (m : Mark) → IsRun kind m → IsCharacters kind
run_chars kind m opening = λ md bs. elim md as (λ (d : Mode). lexeme_items d lex.Opens bs ≡ chars bs) [ mode.Page ↦ refl | mode.Template ↦ refl ]
run_chars kind m closing = λ md bs. elim md as (λ (d : Mode). lexeme_items d lex.Closes bs ≡ chars bs) [ mode.Page ↦ refl | mode.Template ↦ refl ]

same_stretch : (w : List Mark) (cs : List CallAt) (p e : ℕ) (xs zs : List Member) → AllFull zs → width_of_all (members xs) ≡ width_of_all (members zs)
    → marks_of_all (members xs) ≡ marks_of_all (members zs)
    → ((parent : Option ℕ) (n : ℕ) → calls_of_all p parent n (members xs) ≡ calls_of_all p parent n (members zs))
    → IsStretch w cs p e xs → IsStretch w cs p e zs
same_stretch w cs p e xs zs f a m c s = record {
  full = f;
  width = ap (λ k. p + k) (sym a) ∙ s.width;
  bytes = ap (λ k. take k (drop p w)) (sym a) ∙ s.bytes ∙ m;
  calls = record {
    parent = s.calls.parent;
    after = s.calls.after;
    is = s.calls.is
        ∙ ap (λ ds. ds ++ s.calls.after) (c s.calls.parent (calls_before p cs));
    behind = s.calls.behind;
  };
}

split_marks : (kind : LexKind) (m : Mark) (n : ℕ) (rest : List Mark) → IsRun kind m
    → word_marks kind (suc n) ++ rest ≡ word_marks kind 1 ++ (word_marks kind n ++ rest)
split_marks kind m n rest opening = refl
split_marks kind m n rest closing = refl

split_stretch : (w : List Mark) (cs : List CallAt) (p e n : ℕ) (kind : LexKind) (m : Mark) (ys : List Member) → IsRun kind m → 1 ≤ n
    → IsStretch w cs p e (lexeme (kind, suc n) ∷ ys)
    → IsStretch w cs p e (lexeme (kind, 1) ∷ (lexeme (kind, n) ∷ ys))
split_stretch w cs p e n kind m ys run l s =
    let a : p + suc n ≡ p + 1 + n = omega arith in
    same_stretch w cs p e (lexeme (kind, suc n) ∷ ys) (lexeme (kind, 1) ∷ (lexeme (kind, n) ∷ ys)) (omega arith, (l, s.full.1)) (omega arith)
    (split_marks kind m n (marks_of_all (members ys)) run)
    (λ parent c. let b : c + 0 ≡ c + 0 + 0 = omega arith in ap (λ k. calls_of_all k parent (c + 0) (members ys)) a
    ∙ ap (λ k. calls_of_all (p + 1 + n) parent k (members ys)) b) s

take_none : (k : ℕ) → take {A = ℕ} k [] ≡ []
take_none zero = refl
take_none (suc k) = refl

take_chars : (n k : ℕ) (bs : List ℕ) → chars (take (n + k) bs) ≡ chars (take n bs) ++ chars (take k (drop n bs))
take_chars zero k bs = ap (λ i. chars (take i bs)) (zero-add k)
take_chars (suc n) k [] = ap chars (take_none (suc n + k)) ∙ sym (ap chars (take_none k))
take_chars (suc n) k (b ∷ bs) =
    let z : suc n + k ≡ suc (n + k) = omega arith in
    ap (λ i. chars (take i (b ∷ bs))) z ∙ ap (λ xs. char None b ∷ xs) (take_chars n k bs)

then_assoc : (a b : List Item) (o : Output) → then_output (just (a ++ b)) o ≡ then_output (just a) (then_output (just b) o)
then_assoc a b o = ap (λ xs. let r : Output = record { items = xs; work = o.work } in r) (append_assoc a b o.items)

-- characters that stand one behind the other
pub two_items : (kind other : LexKind) (md : Mode) (t : List ℕ) (p n k : ℕ) → IsCharacters kind → IsCharacters other
    → lexeme_items md kind (take (n + k) (drop p t)) ≡ lexeme_items md kind (take n (drop p t)) ++ lexeme_items md other (take k (drop (p + n) t))
two_items kind other md t p n k here there =
    here md (take (n + k) (drop p t)) ∙ take_chars n k (drop p t) ∙ ap (λ bs. chars (take n (drop p t)) ++ chars (take k bs)) (drop-drop n p t)
    ∙ sym (ap (λ xs. xs ++ lexeme_items md other (take k (drop (p + n) t))) (here md (take n (drop p t)))
    ∙ ap (λ xs. chars (take n (drop p t)) ++ xs) (there md (take k (drop (p + n) t))))

run_items : (kind : LexKind) (m : Mark) (md : Mode) (t : List ℕ) (p n : ℕ) → IsRun kind m
    → lexeme_items md kind (take (suc n) (drop p t)) ≡ lexeme_items md kind (take 1 (drop p t)) ++ lexeme_items md kind (take n (drop (p + 1) t))
run_items kind m md t p n run =
    let z : suc n ≡ 1 + n = omega arith in
    ap (λ i. lexeme_items md kind (take i (drop p t))) z ∙ two_items kind kind md t p 1 n (run_chars kind m run) (run_chars kind m run)

split_gives : (t : List ℕ) (p n : ℕ) (kind : LexKind) (m : Mark) (ys : List Member) (r : Reading) (s : Bool) → IsRun kind m → 1 ≤ n
    → given_from r s t p (lexeme (kind, suc n) ∷ ys) ≡ given_from r s t p (lexeme (kind, 1) ∷ (lexeme (kind, n) ∷ ys))
split_gives t p n kind m ys r s run l =
    let a : p + suc n ≡ p + 1 + n = omega arith in
    first_gives t p (suc n) kind ys r s (omega arith)
    ∙ ap (λ k. then_output (just (lexeme_items r.mode kind (take (suc n) (drop p t)))) (given_from r (starts t k) t k ys)) a
    ∙ ap (λ xs. then_output (just xs) (given_from r (starts t (p + 1 + n)) t (p + 1 + n) ys)) (run_items kind m r.mode t p n run)
    ∙ then_assoc (lexeme_items r.mode kind (take 1 (drop p t))) (lexeme_items r.mode kind (take n (drop (p + 1) t)))
    (given_from r (starts t (p + 1 + n)) t (p + 1 + n) ys)
    ∙ ap (then_output (just (lexeme_items r.mode kind (take 1 (drop p t))))) (sym (first_gives t (p + 1) n kind ys r (starts t (p + 1)) l))
    ∙ sym (first_gives t p 1 kind (lexeme (kind, n) ∷ ys) r s (omega arith))

-- one brace
one_brace : (w : List Mark) (cs : List CallAt) (t : List ℕ) (kind : LexKind) (m : Mark) (p n e : ℕ) (ys : List Member) → IsRun kind m
    → IsStretch w cs p e (lexeme (kind, n) ∷ ys)
    → IsTaken w cs t kind p (p + 1) e (lexeme (kind, n) ∷ ys)
one_brace w cs t kind m p zero e ys run s = absurd (let z : 1 ≤ 0 = s.full.0 in omega arith)
one_brace w cs t kind m p (suc zero) e ys run s = whole_lexeme w cs t kind p 1 e ys s
one_brace w cs t kind m p (suc (suc n)) e ys run s =
    let zs = lexeme (kind, suc n) ∷ ys in
    let split = split_stretch w cs p e (suc n) kind m ys run (omega arith) s in
    let z : p + (1 + 0) ≡ p + 1 = omega arith in
    let d : 1 ≡ (p + 1) - p = omega arith in
    record {
      left = zs;
      stretch = subst (λ k. IsStretch w cs k e zs) z (stretch_back w cs p e (lexeme (kind, 1) ∷ []) zs split);
      leads = subst (λ k. Leads kind k (lexeme (kind, suc (suc n)) ∷ ys) zs) d (steps.one_brace kind n ys (run_chars kind m run));
      gives = λ r st. split_gives t p (suc n) kind m ys r st run (omega arith) ∙ first_gives t p 1 kind zs r st (omega arith)
          ∙ ap (λ k. then_output (just (lexeme_items r.mode kind (take k (drop p t)))) (given_from r (starts t (p + 1)) t (p + 1) zs)) d;
    }

-- the first byte of a lexeme tells its kind
first_mark : (k kind : LexKind) (m : Mark) (n : ℕ) (after rest : List Mark) → 1 ≤ n → IsRun kind m → word_marks k n ++ after ≡ m ∷ rest → k ≡ kind
first_mark k kind m zero after rest l run e = absurd (omega (arith, l))
first_mark lex.Chars kind m (suc n) after rest l opening e = absurd cc
first_mark lex.CommentLine kind m (suc n) after rest l opening e = absurd cc
first_mark lex.Comment kind m (suc n) after rest l opening e = absurd cc
first_mark lex.Raw kind m (suc n) after rest l opening e = absurd cc
first_mark lex.Include kind m (suc n) after rest l opening e = absurd cc
first_mark lex.Hidden kind m (suc n) after rest l opening e = absurd cc
first_mark (lex.Entity c) kind m (suc n) after rest l opening e = absurd cc
first_mark lex.Opens kind m (suc n) after rest l opening e = refl
first_mark lex.Closes kind m (suc n) after rest l opening e = absurd cc
first_mark lex.LinkOpen kind m (suc n) after rest l opening e = absurd cc
first_mark lex.LinkClose kind m (suc n) after rest l opening e = absurd cc
first_mark lex.Pipe kind m (suc n) after rest l opening e = absurd cc
first_mark lex.Equals kind m (suc n) after rest l opening e = absurd cc
first_mark lex.Chars kind m (suc n) after rest l closing e = absurd cc
first_mark lex.CommentLine kind m (suc n) after rest l closing e = absurd cc
first_mark lex.Comment kind m (suc n) after rest l closing e = absurd cc
first_mark lex.Raw kind m (suc n) after rest l closing e = absurd cc
first_mark lex.Include kind m (suc n) after rest l closing e = absurd cc
first_mark lex.Hidden kind m (suc n) after rest l closing e = absurd cc
first_mark (lex.Entity c) kind m (suc n) after rest l closing e = absurd cc
first_mark lex.Opens kind m (suc n) after rest l closing e = absurd cc
first_mark lex.Closes kind m (suc n) after rest l closing e = refl
first_mark lex.LinkOpen kind m (suc n) after rest l closing e = absurd cc
first_mark lex.LinkClose kind m (suc n) after rest l closing e = absurd cc
first_mark lex.Pipe kind m (suc n) after rest l closing e = absurd cc
first_mark lex.Equals kind m (suc n) after rest l closing e = absurd cc

-- two fronts of one list begin alike
same_first : (a b : ℕ) (l : List Mark) (m : Mark) (xs ys : List Mark) → 1 ≤ a → take a l ≡ xs → take (suc b) l ≡ m ∷ ys → (rest : List Mark) × (xs ≡ m ∷ rest)
same_first zero b l m xs ys le e f = absurd (omega (arith, le))
same_first (suc a) b [] m xs ys le e f = absurd (let z : [] ≡ m ∷ ys = f in cc)
same_first (suc a) b (x ∷ l) m xs ys le e f = (take a l, sym e ∙ (let z : x ≡ m = cc in ap (λ y. y ∷ take a l) z))

tail_of : (n : ℕ) (l : List Mark) (m : Mark) (ys : List Mark) → take (suc n) l ≡ m ∷ ys → take n (drop 1 l) ≡ ys
tail_of n [] m ys e = absurd (let z : [] ≡ m ∷ ys = e in cc)
tail_of n (x ∷ l) m ys e = cc

-- Characters that are taken one behind the other are taken together.
pub taken_more : (w : List Mark) (cs : List CallAt) (t : List ℕ) (kind other : LexKind) (p q z e : ℕ) (xs : List Member)
    → IsCharacters kind → IsCharacters other → p ≤ q → q ≤ z
    → (f : IsTaken w cs t kind p q e xs) → IsTaken w cs t other q z e f.left → IsTaken w cs t kind p z e xs
taken_more w cs t kind other p q z e xs here there low high f g =
    let n = q - p in
    let k = z - q in
    let d : n + k ≡ z - p = omega (arith, low, high) in
    let at : p + n ≡ q = omega (arith, low) in
    record {
      left = g.left;
      stretch = g.stretch;
      leads = subst (λ j. Leads kind j xs g.left) d (one_more kind other n k xs f.left g.left here there f.leads g.leads);
      gives = λ r s.
          let o = given_from r (starts t z) t z g.left in
          f.gives r s ∙ ap (then_output (just (lexeme_items r.mode kind (take n (drop p t))))) (g.gives r (starts t q))
          ∙ sym (then_assoc (lexeme_items r.mode kind (take n (drop p t))) (lexeme_items r.mode other (take k (drop q t))) o)
          ∙ ap (λ i. then_output (just (lexeme_items r.mode kind (take n (drop p t)) ++ lexeme_items r.mode other (take k (drop i t)))) o) (sym at)
          ∙ ap (λ ys. then_output (just ys) o) (sym (two_items kind other r.mode t p n k here there))
          ∙ ap (λ j. then_output (just (lexeme_items r.mode kind (take j (drop p t)))) o) d;
    }

-- braces of one run
pub read_run : (n : ℕ) (w : List Mark) (cs : List CallAt) (t : List ℕ) (kind : LexKind) (m : Mark) (p g e : ℕ) (xs : List Member) → IsRun kind m
    → IsStretch w cs p e xs
    → p + suc n ≤ g → g ≤ e → take (suc n) (drop p w) ≡ replicate (suc n) m → BeginBehind g (drop (calls_before p cs) cs)
    → IsTaken w cs t kind p (p + suc n) e xs
read_run n w cs t kind m p g e [] run s low high same behind = absurd (let z = s.width in omega (arith, z, low, high))
read_run n w cs t kind m p g e (call k ms ∷ ys) run s low high same behind =
    let h : g ≤ p = subst (BeginBehind g) s.calls.is behind in
    absurd (omega (arith, h, low))
read_run zero w cs t kind m p g e (lexeme (c, k) ∷ ys) run s low high same behind =
    let x = same_first (k + width_of_all (members ys)) 0 (drop p w) m (word_marks c k ++ marks_of_all (members ys)) []
    (let l = s.full.0 in omega (arith, l)) s.bytes same in
    let is = first_mark c kind m k (marks_of_all (members ys)) x.0 s.full.0 run x.1 in
    subst (λ d. IsTaken w cs t kind p (p + 1) e (lexeme (d, k) ∷ ys)) (sym is)
    (one_brace w cs t kind m p k e ys run (subst (λ d. IsStretch w cs p e (lexeme (d, k) ∷ ys)) is s))
read_run (suc n) w cs t kind m p g e (lexeme (c, k) ∷ ys) run s low high same behind =
    let x = same_first (k + width_of_all (members ys)) (suc n) (drop p w) m (word_marks c k ++ marks_of_all (members ys)) (replicate (suc n) m)
    (let l = s.full.0 in omega (arith, l)) s.bytes same in
    let is = first_mark c kind m k (marks_of_all (members ys)) x.0 s.full.0 run x.1 in
    let f = one_brace w cs t kind m p k e ys run (subst (λ d. IsStretch w cs p e (lexeme (d, k) ∷ ys)) is s) in
    let next : calls_before (p + 1) cs ≡ calls_before p cs =
    before_more p (p + 1) cs [] (drop (calls_before p cs) cs) (omega arith) refl tt
    (behind_later (p + 1) g (drop (calls_before p cs) cs) (omega (arith, low)) behind) ∙ omega arith in
    let tail : take (suc n) (drop (p + 1) w) ≡ replicate (suc n) m = ap (take (suc n)) (sym (drop-drop 1 p w))
    ∙ tail_of (suc n) (drop p w) m (replicate (suc n) m) same in
    let rest = read_run n w cs t kind m (p + 1) g e f.left run f.stretch (omega (arith, low)) high tail
    (subst (λ j. BeginBehind g (drop j cs)) (sym next) behind) in
    let z : p + 1 + suc n ≡ p + suc (suc n) = omega arith in
    let all = taken_more w cs t kind kind p (p + 1) (p + 1 + suc n) e (lexeme (kind, k) ∷ ys) (run_chars kind m run) (run_chars kind m run)
    (omega arith) (omega arith) f rest in
    subst (λ d. IsTaken w cs t kind p (p + suc (suc n)) e (lexeme (d, k) ∷ ys)) (sym is)
    (subst (λ q. IsTaken w cs t kind p q e (lexeme (kind, k) ∷ ys)) z all)
