-- Runs of children, cut one by one.
use Rattle.std.proofs.Common.{◌≡◌, ◌<◌, ◌≤◌, true, false, List, [], ◌∷◌, ◌++◌, length, map, refl, sym, ap, ◌∙◌, subst, cond, arith, append_assoc, append-nil}
use Rattle.std.specs.Prelude.{not}
use Rattle.std.specs.List.{flat_map}
use Rattle.std.proofs.lemmas.List.{map-append}
use Rattle.std.proofs.lemmas.Grind.{flat_map-append}
use Rattle.wt_tree.specs.Tree.{Tree}
use Rattle.wt_span.specs.Origins.{OuterCall}
use Rattle.wt_span.specs.Runs.{runs, IsRun}
use Rattle.wt_span.proofs.RunLaws.{runs_cut}
use Rattle.wt_runs.specs.declared.child.Child.{Child}
use Rattle.wt_runs.specs.declared.run.Run.{Run}
use Rattle.wt_runs.specs.Children.{near_of, nears_of}
use Rattle.wt_annotated.specs.GroupData.{group_data}
use Rattle.wt_annotated.specs.Walked.{Near, near_tied, near_group, near_run, near_runs}
use Rattle.wt_runs.specs.RunTrees.{begins_run, is_alone, run_children, run_tree, IsRunOf, AreTied, CutSoFar, AreRunsOf}

-- a tied list before a child that isn't tied to it, or before nothing, is a run
pub is_run : (calls : List OuterCall) (c : Child) (cs : List Child) (d : Child) (rest : List Child) → AreTied (c ∷ cs) → d.free ≡ true
    → IsRun near_tied (nears_of calls (c ∷ cs)) (nears_of calls (d ∷ rest))
is_run calls c [] d rest t f = ap not f
is_run calls c (e ∷ es) d rest t f = (ap not t.0, is_run calls e es d rest t.1 f)

is_last : (calls : List OuterCall) (c : Child) (cs : List Child) → AreTied (c ∷ cs) → IsRun near_tied (nears_of calls (c ∷ cs)) []
is_last calls c [] t = tt
is_last calls c (e ∷ es) t = (ap not t.0, is_last calls e es t.1)

runs_more : (rs ss : List Run) (r : Run) → ss ≡ rs ++ r ∷ [] → flat_map run_children ss ≡ flat_map run_children rs ++ run_children r
runs_more rs ss r e = ap (flat_map run_children) e ∙ flat_map-append run_children rs (r ∷ [])
    ∙ ap (λ xs. flat_map run_children rs ++ xs) (append-nil (run_children r))

trees_more : (calls : List OuterCall) (rs ss : List Run) (r : Run) → ss ≡ rs ++ r ∷ []
    → map (run_tree calls) ss ≡ map (run_tree calls) rs ++ run_tree calls r ∷ []
trees_more calls rs ss r e = ap (map (run_tree calls)) e ∙ map-append (run_tree calls) rs (r ∷ [])

-- the run that waits is closed
pub closed : (rs ss : List Run) (r : Run) (run : List Child) (d : Child) (rest all new : List Child) → CutSoFar rs run (d ∷ rest) all → ss ≡ rs ++ r ∷ []
    → IsRunOf run r → begins_run run d ≡ true → new ≡ d ∷ [] → CutSoFar ss new rest all
closed rs ss r [] d rest all new s e i f n = cc
closed rs ss r (c ∷ cs) d rest all new s e i f n = record {
  joined =
      ap (λ xs. xs ++ (new ++ rest)) (runs_more rs ss r e)
      ∙ append_assoc (flat_map run_children rs) (run_children r) (new ++ rest)
      ∙ ap (λ (xs : List Child). flat_map run_children rs ++ (xs ++ (new ++ rest))) i.children
      ∙ ap (λ (xs : List Child). flat_map run_children rs ++ ((c ∷ cs) ++ (xs ++ rest))) n
      ∙ s.joined;
  become = λ calls.
      ap (λ xs. xs ++ near_runs calls (group_data calls) (nears_of calls (new ++ rest))) (trees_more calls rs ss r e)
      ∙ append_assoc (map (run_tree calls) rs) (run_tree calls r ∷ []) (near_runs calls (group_data calls) (nears_of calls (new ++ rest)))
      ∙ ap (λ (u : Tree). map (run_tree calls) rs ++ (u ∷ near_runs calls (group_data calls) (nears_of calls (new ++ rest)))) (i.becomes calls)
      ∙ ap (λ (xs : List Child). map (run_tree calls) rs
      ++ (near_run calls (group_data calls) (nears_of calls (c ∷ cs)) ∷ near_runs calls (group_data calls) (nears_of calls (xs ++ rest)))) n
      ∙ ap (λ (qs : List (List Near)). map (run_tree calls) rs ++ map (near_run calls (group_data calls)) qs)
      (sym (runs_cut near_tied (nears_of calls (c ∷ cs)) (nears_of calls (d ∷ rest)) (is_run calls c cs d rest s.tied f))
      ∙ ap (runs near_tied) (sym (map-append (near_of calls) (c ∷ cs) (d ∷ rest))))
      ∙ s.become calls;
  tied = subst AreTied (sym n) tt;
}

-- a child is appended to the run that waits
tied_more : (cs : List Child) (d : Child) → AreTied cs → begins_run cs d ≡ false → AreTied (cs ++ d ∷ [])
tied_more [] d t f = tt
tied_more (c ∷ []) d t f = (f, tt)
tied_more (c ∷ e ∷ es) d t f = (t.0, tied_more (e ∷ es) d t.1 f)

pub appended : (rs : List Run) (run : List Child) (d : Child) (rest all new : List Child) → CutSoFar rs run (d ∷ rest) all → begins_run run d ≡ false
    → new ≡ run ++ d ∷ [] → CutSoFar rs new rest all
appended rs run d rest all new s f n =
    let e : new ++ rest ≡ run ++ (d ∷ rest) = ap (λ (xs : List Child). xs ++ rest) n ∙ append_assoc run (d ∷ []) rest in
    record {
      joined = ap (λ (xs : List Child). flat_map run_children rs ++ xs) e ∙ s.joined;
      become = λ calls. ap (λ (xs : List Child). map (run_tree calls) rs ++ near_runs calls (group_data calls) (nears_of calls xs)) e ∙ s.become calls;
      tied = subst AreTied (sym n) (tied_more run d s.tied f);
    }

-- the last run is closed
pub ended : (rs ss : List Run) (r : Run) (run all : List Child) → CutSoFar rs run [] all → ss ≡ rs ++ r ∷ [] → IsRunOf run r → 0 < length run
    → AreRunsOf ss all
ended rs ss r [] all s e i l = absurd (omega (arith, l))
ended rs ss r (c ∷ cs) all s e i l =
    let z : (c ∷ cs) ++ [] ≡ c ∷ cs = append-nil (c ∷ cs) in
    record {
      joined = runs_more rs ss r e ∙ ap (λ (xs : List Child). flat_map run_children rs ++ xs) (i.children ∙ sym z) ∙ s.joined;
      become = λ calls.
          trees_more calls rs ss r e
          ∙ ap (λ (u : Tree). map (run_tree calls) rs ++ (u ∷ [])) (i.becomes calls)
          ∙ ap (λ (qs : List (List Near)). map (run_tree calls) rs ++ map (near_run calls (group_data calls)) qs)
          (sym (runs_cut near_tied (nears_of calls (c ∷ cs)) [] (is_last calls c cs s.tied)))
          ∙ ap (λ (ns : List Near). map (run_tree calls) rs ++ near_runs calls (group_data calls) ns) (append-nil (nears_of calls (c ∷ cs)))
          ∙ ap (λ (xs : List Child). map (run_tree calls) rs ++ near_runs calls (group_data calls) (nears_of calls xs)) (sym z)
          ∙ s.become calls;
    }

pub none_waits : (rs : List Run) (run all : List Child) → CutSoFar rs run [] all → length run ≤ 0 → AreRunsOf rs all
none_waits rs [] all s l = record
    { joined = sym (append-nil (flat_map run_children rs)) ∙ s.joined; become = λ calls. sym (append-nil (map (run_tree calls) rs)) ∙ s.become calls }
none_waits rs (c ∷ cs) all s l = absurd (omega (arith, l))

pub cut_first : (rs : List Run) (run all : List Child) → rs ≡ [] → run ≡ [] → CutSoFar rs run all all
cut_first rs run all e f = record {
  joined = ap (λ (xs : List Run). flat_map run_children xs ++ (run ++ all)) e ∙ ap (λ (xs : List Child). xs ++ all) f;
  become = λ calls. ap (λ (xs : List Run). map (run_tree calls) xs ++ near_runs calls (group_data calls) (nears_of calls (run ++ all))) e
      ∙ ap (λ (xs : List Child). near_runs calls (group_data calls) (nears_of calls (xs ++ all))) f;
  tied = subst AreTied (sym f) tt;
}

-- ---- what a run becomes

pub alone_is : (cs ds : List Child) (c : Child) → cs ≡ ds ++ c ∷ [] → is_alone cs ≡ true → (cs ≡ c ∷ []) × (c.clean ≡ true)
alone_is [] [] c e t = cc
alone_is [] (d ∷ ds) c e t = cc
alone_is (b ∷ []) [] c e t = let f : b ≡ c = cc in (e, ap (λ (x : Child). x.clean) (sym f) ∙ t)
alone_is (b ∷ []) (d ∷ []) c e t = cc
alone_is (b ∷ []) (d ∷ f ∷ fs) c e t = cc
alone_is (a ∷ b ∷ bs) ds c e t = cc

pub run_alone : (cs ds : List Child) (c : Child) (r : Run) → cs ≡ ds ++ c ∷ [] → is_alone cs ≡ true → run_children r ≡ c ∷ []
    → ((calls : List OuterCall) → run_tree calls r ≡ (near_of calls c).whole) → IsRunOf cs r
run_alone cs ds c r e t h g =
    let a = alone_is cs ds c e t in
    record {
      children = h ∙ sym a.0;
      becomes = λ calls. g calls ∙ ap (λ v. cond v (near_of calls c).whole (near_group calls (group_data calls) (nears_of calls (c ∷ [])))) (sym a.1)
          ∙ ap (λ (xs : List Child). near_run calls (group_data calls) (nears_of calls xs)) (sym a.0);
    }

group_becomes : (calls : List OuterCall) (cs : List Child) → is_alone cs ≡ false
    → near_group calls (group_data calls) (nears_of calls cs) ≡ near_run calls (group_data calls) (nears_of calls cs)
group_becomes calls [] f = refl
group_becomes calls (c ∷ []) f = ap (λ v. cond v (near_of calls c).whole (near_group calls (group_data calls) (nears_of calls (c ∷ [])))) (sym f)
group_becomes calls (c ∷ d ∷ ds) f = refl

pub run_group : (cs : List Child) (r : Run) → is_alone cs ≡ false → run_children r ≡ cs
    → ((calls : List OuterCall) → run_tree calls r ≡ near_group calls (group_data calls) (nears_of calls cs)) → IsRunOf cs r
run_group cs r f h g = record { children = h; becomes = λ calls. g calls ∙ group_becomes calls cs f }

pub none_left : (cs : List Child) → length cs ≡ 0 → cs ≡ []
none_left [] e = refl
none_left (c ∷ cs) e = absurd (omega (arith, e))
