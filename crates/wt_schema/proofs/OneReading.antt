-- What is read by the machine is what the grammar's words say.
use Rattle.std.proofs.Common.{◌≡◌, ℕ, Bool, true, false, Option, Result, Ok, Err, List, [], length, refl, sym, ap, ◌∙◌, subst}
use Rattle.wt_tree.specs.Tree.{Tree}
use Rattle.wt_html_grammar.specs.declared.why.HtmlWhy.{HtmlWhy}
use Rattle.wt_html_grammar.specs.declared.why.HtmlWhy.TheVariants as html_why
use Rattle.wt_html_grammar.specs.Grammar.{Well}
use Rattle.wt_html_grammar.specs.Machine.{State, start, inside, run}
use Rattle.wt_html_grammar.specs.Places.{Refused, taken, is_accepted}
use Rattle.wt_html_grammar.specs.Markup.{Markup, empty, more, meaning, Stands}
use Rattle.wt_html_grammar.specs.Events.{Building, built}
use Rattle.wt_html_grammar.proofs.Steps.{if_true, if_false}
use Rattle.wt_html_grammar.proofs.Places.{refused, cut_off, well_of}
use Rattle.wt_html_grammar.proofs.Reading.{well_read}
use Rattle.wt_html_grammar.proofs.Spaces.{one_place}
use Rattle.wt_html_grammar.proofs.Telling.{stands_told}
use Rattle.wt_html_reasons.proofs.First.{holds, first_reason, only}
use Rattle.wt_schema.specs.declared.why.FitWhy.{FitWhy}
use Rattle.wt_schema.specs.Fit.{Misfit, fit}
use Rattle.wt_schema.specs.Unsourced.{unsourced}
use Rattle.wt_schema.specs.Read.{Read, page, ill, misfit, read_fit, read_tree, read_root, read_run, read, IsRead}

-- the three ways in which the machine ends
read_err : (bytes : List ℕ) (w : HtmlWhy) → run start bytes ≡ Err w → read bytes ≡ ill (taken start bytes) w
unfolding read
read_err bytes w e = ap (read_run bytes) e

read_cut : (bytes : List ℕ) (s : State) → run start bytes ≡ Ok s → is_accepted s ≡ false → read bytes ≡ ill (length bytes) html_why.End
unfolding read
read_cut bytes s e a = ap (read_run bytes) e ∙ if_false (is_accepted s) (read_root bytes (built bytes).root) (ill (length bytes) html_why.End) a

read_whole : (bytes : List ℕ) (s : State) (m : Markup) → run start bytes ≡ Ok s → is_accepted s ≡ true
    → (built bytes).root ≡ more m empty → read bytes ≡ read_tree m
unfolding read
read_whole bytes s m e a h =
    ap (read_run bytes) e ∙ if_true (is_accepted s) (read_root bytes (built bytes).root) (ill (length bytes) html_why.End) a ∙ ap (read_root bytes) h

-- bytes that stand for a tree are read as what it is
pub read_stands : (bytes : List ℕ) (m : Markup) → Stands bytes m → read bytes ≡ read_tree m
read_stands bytes m h =
    let well : Well bytes = (h.0, h.1, h.2) in
    let told = ap (λ (x : Building). x.root) (stands_told bytes m h) in
    read_whole bytes (inside []) m (well_read bytes well) refl told

tree_page : (m : Markup) (t : Tree) (u : Option ℕ) → fit m ≡ Ok t → unsourced m ≡ u → read_tree m ≡ page t u
unfolding read_tree
tree_page m t u e f = ap (read_fit (unsourced m)) e ∙ ap (page t) f

tree_misfit : (m : Markup) (n : ℕ) (w : FitWhy) → fit m ≡ Err (n, w) → read_tree m ≡ misfit n w
unfolding read_tree
tree_misfit m n w e = ap (read_fit (unsourced m)) e

fit_is_read : (bytes : List ℕ) (m : Markup) (o : Result Tree Misfit) → Stands bytes m → fit m ≡ o → IsRead bytes (read_fit (unsourced m) o)
fit_is_read bytes m (Ok t) h e = (m, h, e, refl)
fit_is_read bytes m (Err (n, w)) h e = (m, h, e)

tree_is_read : (bytes : List ℕ) (m : Markup) → Stands bytes m → IsRead bytes (read_tree m)
unfolding read_tree
tree_is_read bytes m h = fit_is_read bytes m (fit m) h refl

-- refused where the machine stops: nowhere else, and for no other reason
ill_same : (bytes : List ℕ) (m n : ℕ) (v w : HtmlWhy) → Refused bytes m v → Refused bytes n w → ill m v ≡ ill n w
ill_same bytes m n v w a b = ap (λ k. ill k v) (one_place bytes m n a.0 b.0) ∙ ap (ill n) (a.1 ∙ sym b.1)

read_refused : (bytes : List ℕ) (place : ℕ) (w : HtmlWhy) (o : Result State HtmlWhy) → run start bytes ≡ o → Refused bytes place w → read bytes ≡ ill place w
read_refused bytes place w (Err v) e h = read_err bytes v e ∙ ill_same bytes (taken start bytes) place v w (refused bytes v e) h
read_refused bytes place w (Ok s) e h = by_test (is_accepted s) refl
  where
    by_test : (b : Bool) → is_accepted s ≡ b → read bytes ≡ ill place w
    by_test true f = absurd (h.0.ill (well_of bytes s e f))
    by_test false f = read_cut bytes s e f ∙ ill_same bytes (length bytes) place html_why.End w (cut_off bytes s e f) h

-- the same in words
pub in_words : (bytes : List ℕ) (place : ℕ) (w : HtmlWhy) → Refused bytes place w → IsRead bytes (ill place w)
in_words bytes place w h = (h.0, holds bytes place w h, λ v. first_reason bytes place v w h)

pub one_read : (bytes : List ℕ) (r : Read) → IsRead bytes r → read bytes ≡ r
one_read bytes (page t u) h = read_stands bytes h.0 h.1 ∙ tree_page h.0 t u h.2 h.3
one_read bytes (ill place w) h = read_refused bytes place w (run start bytes) refl (only bytes place w h.0 h.1 h.2)
one_read bytes (misfit n w) h = read_stands bytes h.0 h.1 ∙ tree_misfit h.0 n w h.2

reads_by : (bytes : List ℕ) (o : Result State HtmlWhy) → run start bytes ≡ o → IsRead bytes (read bytes)
reads_by bytes (Err w) e = let P : Read → Type 0 = IsRead bytes in subst P (sym (read_err bytes w e)) (in_words bytes (taken start bytes) w (refused bytes w e))
reads_by bytes (Ok s) e = by_test (is_accepted s) refl
  where
    by_test : (b : Bool) → is_accepted s ≡ b → IsRead bytes (read bytes)
    by_test true f =
        let well : Well bytes = well_of bytes s e f in
        let m : Markup = meaning well.0.root in
        let h : Stands bytes m = (well.0, well.1, well.2, refl) in
        let P : Read → Type 0 = IsRead bytes in
        subst P (sym (read_stands bytes m h)) (tree_is_read bytes m h)
    by_test false f = let P : Read → Type 0 = IsRead bytes in
        subst P (sym (read_cut bytes s e f)) (in_words bytes (length bytes) html_why.End (cut_off bytes s e f))

pub reads : (bytes : List ℕ) → IsRead bytes (read bytes)
reads bytes = reads_by bytes (run start bytes) refl
