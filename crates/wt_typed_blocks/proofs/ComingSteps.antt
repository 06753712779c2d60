-- What is listed so is what the steps of a body are.
use Rattle.std.proofs.Common.{◌≡◌, ◌≢◌, ℕ, Bool, true, false, List, [], ◌∷◌, ◌++◌, refl, sym, ap, ◌∙◌}
use Rattle.std.specs.Prelude.{◌==◌, not, if◌then◌else◌}
use Rattle.wt_tree.specs.Tree.{Tree, Trees, more, label}
use Rattle.wt_content.specs.declared.children.Holder.TheVariants as holder
use Rattle.wt_content.specs.Children.{is_space}
use Rattle.wt_slices.specs.Steps as step
use Rattle.wt_slices.specs.Steps.{Step, passed_one, passed_up_to, from_number, kept_first, behind_first, steps}
use Rattle.wt_checks.proofs.InOrder.{test_equal, test_other}
use Rattle.wt_typed_blocks.specs.Coming.{Coming, no_more, spaced, comes, stays, goes, new_paragraph, page_children, sent_children, Stays, AllStay, NextIsOther, AreListed, steps_of}
use Rattle.wt_typed_blocks.proofs.ComingPasses.{same_number, same_space}

-- a block that is sent with its number: it is sought among the page's nodes
abbrev sought : Tree → Trees → Trees → List Step
sought u ts us =
    passed_up_to holder.Body (label u).id ts
    ++ (kept_first (from_number (label u).id ts) u ++ steps holder.Body (behind_first (from_number (label u).id ts)) us)

is_sought : (u : Tree) (ts us : Trees) → is_space (label u).kind ≡ false → ((label u).id == 0) ≡ false
    → steps holder.Body ts (more u us) ≡ sought u ts us
is_sought u ts us k z =
    let new : List Step = step.comes u ∷ steps holder.Body ts us in
    ap (λ (b : Bool). if not (not b) then steps holder.Body ts us else (if (label u).id == 0 then new else sought u ts us)) k
    ∙ ap (λ (b : Bool). if b then new else sought u ts us) z

-- it is the next of the page's nodes
keeps : (t u : Tree) (ts us : Trees) → is_space (label u).kind ≡ false → ((label u).id == 0) ≡ false → ((label t).id == (label u).id) ≡ true
    → steps holder.Body (more t ts) (more u us) ≡ step.kept t u ∷ steps holder.Body ts us
keeps t u ts us k z e =
    let n : ℕ = (label u).id in
    let others : Trees = more t ts in
    let after : Trees → List Step = λ vs. kept_first vs u ++ steps holder.Body (behind_first vs) us in
    is_sought u others us k z
    ∙ ap (λ (b : Bool). (if b then [] else passed_one holder.Body t ∷ passed_up_to holder.Body n ts) ++ after (if b then others else from_number n ts)) e

-- or not
passes_one : (t u : Tree) (ts us : Trees) → is_space (label u).kind ≡ false → ((label u).id == 0) ≡ false → ((label t).id == (label u).id) ≡ false
    → steps holder.Body (more t ts) (more u us) ≡ passed_one holder.Body t ∷ steps holder.Body ts (more u us)
passes_one t u ts us k z e =
    let n : ℕ = (label u).id in
    let others : Trees = more t ts in
    let after : Trees → List Step = λ vs. kept_first vs u ++ steps holder.Body (behind_first vs) us in
    is_sought u others us k z
    ∙ ap (λ (b : Bool). (if b then [] else passed_one holder.Body t ∷ passed_up_to holder.Body n ts) ++ after (if b then others else from_number n ts)) e
    ∙ ap (λ (ss : List Step). passed_one holder.Body t ∷ ss) (sym (is_sought u ts us k z))

no_space : (t u : Tree) → Stays t u → is_space (label u).kind ≡ false
no_space t u h = same_space t u h.as_is ∙ h.block

no_zero : (t u : Tree) → Stays t u → ((label u).id == 0) ≡ false
no_zero t u h = ap (λ (n : ℕ). n == 0) (same_number t u h.as_is) ∙ test_other (label t).id 0 h.numbered

turned : (m n : ℕ) → m ≢ n → n ≢ m
turned m n h = λ e. h (sym e)

-- what goes is passed before the next block that is sent
passed_next : (t : Tree) (ts : Trees) (cs : Coming) → AllStay cs → NextIsOther (label t).id cs
    → steps holder.Body (more t ts) (sent_children cs) ≡ passed_one holder.Body t ∷ steps holder.Body ts (sent_children cs)
passed_next t ts no_more h o = refl
passed_next t ts (spaced x cs) h o = passed_next t ts cs h o
passed_next t ts (comes m x text cs) h o = absurd o
passed_next t ts (stays r u cs) h o =
    passes_one t u ts (sent_children cs) (no_space r u h.0) (no_zero r u h.0)
    (ap (λ (n : ℕ). (label t).id == n) (same_number r u h.0.as_is) ∙ test_other (label t).id (label r).id (turned (label r).id (label t).id o))
passed_next t ts (goes r cs) h o = passed_next t ts cs h o

pub steps_are : (cs : Coming) → AllStay cs → AreListed cs → steps holder.Body (page_children cs) (sent_children cs) ≡ steps_of cs
steps_are no_more h o = refl
steps_are (spaced x cs) h o = steps_are cs h o
steps_are (comes m x text cs) h o = ap (λ (ss : List Step). step.comes (new_paragraph m x text) ∷ ss) (steps_are cs h o)
steps_are (stays t u cs) h o =
    keeps t u (page_children cs) (sent_children cs) (no_space t u h.0) (no_zero t u h.0)
    (test_equal (label t).id (label u).id (sym (same_number t u h.0.as_is)))
    ∙ ap (λ (ss : List Step). step.kept t u ∷ ss) (steps_are cs h.1 o)
steps_are (goes t cs) h o =
    passed_next t (page_children cs) cs h o.0 ∙ ap (λ (ss : List Step). passed_one holder.Body t ∷ ss) (steps_are cs h o.1)
