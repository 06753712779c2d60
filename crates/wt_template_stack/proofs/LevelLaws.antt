-- Work that was done is taken from what the levels give.
use Rattle.std.proofs.Common.{ℕ, ◌+◌, Bool, List, [], ◌∷◌, ◌++◌, refl, sym, ap, ◌∙◌, subst, append_assoc}
use Rattle.wt_span.specs.Items.{items}
use Rattle.wt_span.specs.declared.function.Function.{Function}
use Rattle.wt_transclusion.specs.declared.read.Braces.{Braces}
use Rattle.wt_expand.specs.Fronts.{cost_of_all}
use Rattle.wt_expand.specs.Work.{Entry}
use Rattle.wt_expand.specs.Expansion.{Output, Reading, PartOutput, just, then_output, later_parts}
use Rattle.wt_transclusion.specs.Cursors.{starts}
use Rattle.wt_transclusion.specs.Parts.{parts_given}
use Rattle.wt_transclusion.specs.Steps.{given_from}
use Rattle.wt_template_stack.specs.declared.choosing.Choosing.{Choosing}
use Rattle.wt_template_stack.specs.declared.level.Level.{Level}
use Rattle.wt_template_stack.specs.declared.level.Task.{Task}
use Rattle.wt_template_stack.specs.declared.level.Task.TheVariants as task
use Rattle.wt_template_stack.specs.Calls.{source_of, parts_of_call, behind_given}
use Rattle.wt_template_stack.specs.Accounts.{Account, Does}
use Rattle.wt_template_stack.specs.Levels.{IsToldSince, Resumes, Ends}
use Rattle.wt_template_stack.specs.Rests.{with_work, ended_with, after_argument, after_value, after_name, after_text, after_target, after_given, behind_word, after_told}
use Rattle.wt_template_stack.proofs.RestLaws.{ended_work, argument_work, value_work, name_work, text_work, target_work, given_work, told_work, between_work}

-- without work that comes first the levels give the rest
abbrev pub Strips : Reading → List ℕ → ℕ → Bool → List Entry → Output → List Level → Account → Type 0
Strips r t p s w g ls total = (rest : Account) × Does w total rest × Resumes r t p s g ls rest

abbrev EndStrips : Reading → List ℕ → ℕ → Task → List Entry → List Level → Output → Account → Type 0
EndStrips r t e k w ls o total = (rest : Account) × Does w total rest × Ends r t e k ls o rest

abbrev Below : Reading → List ℕ → List Entry → List Level → Account → Type 0
Below r t w ls total = (q : ℕ) (x : Output) → Resumes r t q (starts t q) (with_work w x) ls total → Strips r t q (starts t q) w x ls total

-- what was done of a part that is being told, when more of it is done
strip_since : (b : Braces) (f : Function) (number spent : ℕ) (ps : List PartOutput) (w : List Entry) (o : Output) (total rest : Account) → Does w total rest
    → IsToldSince total b f number spent ps (with_work w o) → IsToldSince rest b f number spent ps o
strip_since b f number spent ps w o total rest d h = record {
  done = h.done ++ w;
  last = record {
    earlier = h.last.earlier;
    done_is = d.done_is ∙ ap (λ es. es ++ w) h.last.done_is ∙ append_assoc h.last.earlier h.done w;
    spent_is = h.last.spent_is ∙ ap (λ n. n + cost_of_all h.last.earlier) (sym d.before_is);
  };
  gives = λ part there whole. h.gives part there whole ∙ ap (λ (es : List Entry). let x : Output = record { items = o.items; work = es } in x) (sym (append_assoc h.done w o.work));
}

strip_told : (r : Reading) (t : List ℕ) (e : ℕ) (c : Choosing) (w : List Entry) (ls : List Level) (o : Output) (total : Account) → Below r t w ls total
    → Ends r t e (task.Told c) ls (with_work w o) total → EndStrips r t e (task.Told c) w ls o total
strip_told r t e c w ls o total on h =
    let to = c.call.at.end in
    let ps = parts_of_call r t c.call h.choosing.call in
    let z = on to (after_told c.at_start c.chooser ps o)
    (subst (λ x. Resumes r t to (starts t to) x ls total) (told_work c.at_start c.chooser ps w o) h.gives) in (
      z.0,
      z.1,
      record {
        choosing = h.choosing;
        before = h.before;
        within = h.within;
        since = λ l. strip_since c.call c.function c.number c.spent ps w o total z.0 z.1 (h.since l);
        gives = z.2;
      },
    )

strip_end : (r : Reading) (t : List ℕ) (e : ℕ) (k : Task) (w : List Entry) (ls : List Level) (o : Output) (total : Account) → Below r t w ls total
    → Ends r t e k ls (with_work w o) total → EndStrips r t e k w ls o total
strip_end r t e task.Whole w ls o total on h = (
  record { before = total.before; done = total.done ++ w; left = o },
  record { before_is = refl; done_is = refl; left_is = h.1 },
  (h.0, refl),
)
strip_end r t e (task.Argument b) w ls o total on h =
    let later = later_parts (parts_of_call r t b h.call) in
    let z = on b.at.end (after_argument r.frame later o)
    (subst (λ x. Resumes r t b.at.end (starts t b.at.end) x ls total) (argument_work r.frame later w o) h.gives) in
    (z.0, z.1, record { call = h.call; end_is = h.end_is; gives = z.2 })
strip_end r t e (task.Default b) w ls o total on h =
    let z = on b.at.end (ended_with o) (subst (λ x. Resumes r t b.at.end (starts t b.at.end) x ls total) (ended_work w o) h.1) in (z.0, z.1, (h.0, z.2))
strip_end r t e (task.Target b s) w ls o total on h =
    let c = h.call in
    let same = target_work r s c.braces (source_of r.mode t b c) (later_parts (parts_of_call r t b c)) (behind_given r t b c) w o in
    let x = after_target r s c.braces (source_of r.mode t b c) (later_parts (parts_of_call r t b c)) (behind_given r t b c) o in
    let z = on b.at.end x (subst (λ y. Resumes r t b.at.end (starts t b.at.end) y ls total) same h.gives) in
    (z.0, z.1, record { call = c; end_is = h.end_is; gives = z.2 })
strip_end r t e (task.First c n) w ls o total on h = let z = strip_told r t e c w ls (behind_word n o) total on h.1 in (z.0, z.1, (h.0, z.2))
strip_end r t e (task.Told c) w ls o total on h = strip_told r t e c w ls o total on h
strip_end r t e (task.Given b s) w ls o total on h =
    let z = on b.at.end (after_given s o) (subst (λ x. Resumes r t b.at.end (starts t b.at.end) x ls total) (given_work s w o) h.1) in (z.0, z.1, (h.0, z.2))
strip_end r t e (task.Name a to) w ls o total on h =
    let value = given_from r (starts t (e + 1)) t (e + 1) h.value in
    let later = parts_given r (starts t h.at) t h.at h.ps in
    let same = name_work r a.at_start a.title h.frame a.handed.number value later w o in
    let z = on a.call.at.end (after_name r a.at_start a.title h.frame a.handed.number value later o)
    (subst (λ x. Resumes r t a.call.at.end (starts t a.call.at.end) x ls total) same h.gives) in (
      z.0,
      z.1,
      record {
        frame = h.frame;
        value = h.value;
        at = h.at;
        ps = h.ps;
        pending = h.pending;
        value_ends = h.value_ends;
        stretch = h.stretch;
        numbered = h.numbered;
        before = h.before;
        within = h.within;
        gives = z.2;
      },
    )
strip_end r t e (task.Value a name) w ls o total on h =
    let later = parts_given r (starts t h.at) t h.at h.ps in
    let same = value_work r a.at_start a.title h.frame a.handed.number h.given later w o in
    let z = on a.call.at.end (after_value r a.at_start a.title h.frame a.handed.number h.given later o)
    (subst (λ x. Resumes r t a.call.at.end (starts t a.call.at.end) x ls total) same h.gives) in (
      z.0,
      z.1,
      record {
        frame = h.frame;
        given = h.given;
        at = h.at;
        ps = h.ps;
        pending = h.pending;
        numbered = h.numbered;
        named = h.named;
        before = h.before;
        within = h.within;
        gives = z.2;
      },
    )
strip_end r t e (task.Text b) w ls o total on h =
    let same = text_work h.call.braces (source_of r.mode t b h.call) w o in
    let z = on b.at.end (after_text h.call.braces (source_of r.mode t b h.call) o)
    (subst (λ x. Resumes r t b.at.end (starts t b.at.end) x ls total) same h.gives) in
    (z.0, z.1, record { call = h.call; end_is = h.end_is; gives = z.2 })

pub strip : (r : Reading) (t : List ℕ) (p : ℕ) (s : Bool) (w : List Entry) (g : Output) (ls : List Level) (total : Account)
    → Resumes r t p s (with_work w g) ls total → Strips r t p s w g ls total
strip r t p s w g [] total h = absurd h
strip r t p s w g (l ∷ ls) total h =
    let o = given_from r s t p h.0 in
    let same = between_work w (items l.out) g o in
    let z = strip_end r t l.end l.task w ls (then_output (just (items l.out)) (then_output g o)) total (λ q x. strip r t q (starts t q) w x ls total)
    (subst (λ x. Ends r t l.end l.task ls x total) same h.2) in
    (z.0, z.1, (h.0, h.1, z.2))
