-- A call of `run` over devices that are made for it, as one of the library's.
use Rattle.std.proofs.Common.{◌≡◌, ℕ, List, [], ap, subst}
use Rattle.std.specs.Prelude.{Option, Some, None, IfSome}
use Rattle.wt_replies.specs.declared.source.BufferSource.{BufferSource}
use Rattle.wt_devices.specs.Device.{Pages}
use Rattle.wt_commands.specs.declared.command.Command.{Command}
use Rattle.wt_commands.specs.declared.command.Command.TheVariants.{Page, Expand, Edit, Selser, Gen, Wikitext}
use Rattle.wt_commands.specs.Answers.{IsNoText}
use Rattle.wt_commands.specs.Calls.{call}
use Rattle.wt_commands.specs.Devices.{SourceUse, FolderUse, SinkUse}
use Rattle.wt_pagetool.specs.Promises.{Waits}
use Rattle.wt_replies.specs.Runs.{Ran, Answers, from_buffer, from_table, to_memory}

abbrev source : Option (List ℕ) → List ℕ → SourceUse
source before left = record { left_before = before; left_after = Some left; faults_before = 0; faults_after = 0 }

abbrev folder : Option Pages → ℕ → ℕ → FolderUse
folder pages before after = record { pages_before = pages; faults_before = before; faults_after = after }

abbrev sink : Option (List ℕ) → List ℕ → ℕ → ℕ → SinkUse
sink taken bytes before after = record { taken_before = taken; taken_after = Some bytes; faults_before = before; faults_after = after }

left_by : (p : Option Pages) (P : Pages → Type 0) (old new : BufferSource) → IfSome p (λ pages. P pages → new ≡ old)
    → IfSome p (λ pages. P pages → Some new.left.now ≡ Some old.left.now)
left_by None P old new h = tt
left_by (Some pages) P old new h = λ it. ap (λ (s : BufferSource). Some s.left.now) (h it)

pub of_library : (words : List (List ℕ)) (ended : ℕ)
    (l : Option (List ℕ)) (input left : List ℕ)
    (p : Option Pages) (pages : Pages) (f ff : ℕ)
    (t : Option (List ℕ)) (out : List ℕ) (o oo : ℕ)
    (e : Option (List ℕ)) (line : List ℕ) (k kk : ℕ)
    (b : Option (List (List ℕ))) (names : List (List ℕ))
    → l ≡ Some input → p ≡ Some pages → f ≡ 0 → t ≡ Some [] → o ≡ 0 → e ≡ Some [] → k ≡ 0 → b ≡ Some []
    → Ran (call words (source l left) (folder p f ff) (sink t out o oo) (sink e line k kk)) ended b (Some names)
    → Answers words input pages ended out line names
of_library words ended l input left p pages f ff t out o oo e line k kk b names el ep ef et eo ee ek eb ran =
    let a1 = subst (λ (x : Option (List ℕ)). Ran (call words (source x left) (folder p f ff) (sink t out o oo) (sink e line k kk)) ended b (Some names)) el ran in
    let a2 = subst (λ (x : Option Pages). Ran (call words (from_buffer input left) (folder x f ff) (sink t out o oo) (sink e line k kk)) ended b (Some names)) ep a1 in
    let a3 = subst (λ (x : ℕ). Ran (call words (from_buffer input left) (folder (Some pages) x ff) (sink t out o oo) (sink e line k kk)) ended b (Some names)) ef a2 in
    let a4 = subst (λ (x : Option (List ℕ)). Ran (call words (from_buffer input left) (from_table pages ff) (sink x out o oo) (sink e line k kk)) ended b (Some names)) et a3 in
    let a5 = subst (λ (x : ℕ). Ran (call words (from_buffer input left) (from_table pages ff) (sink (Some []) out x oo) (sink e line k kk)) ended b (Some names)) eo a4 in
    let a6 = subst (λ (x : Option (List ℕ)). Ran (call words (from_buffer input left) (from_table pages ff) (to_memory out oo) (sink x line k kk)) ended b (Some names)) ee a5 in
    let a7 = subst (λ (x : ℕ). Ran (call words (from_buffer input left) (from_table pages ff) (to_memory out oo) (sink (Some []) line x kk)) ended b (Some names)) ek a6 in
    record {
      left = left;
      failed_fetches = ff;
      out_faults = oo;
      line_faults = kk;
      ran = subst (λ (x : Option (List (List ℕ))). Ran (call words (from_buffer input left) (from_table pages ff) (to_memory out oo) (to_memory line kk)) ended x (Some names)) eb a7;
    }

-- where a source is as it was, it has left what it had
pub waits_left : (command : Option Command) (p : Option Pages) (old new : BufferSource) → Waits command p old new
    → Waits command p (Some old.left.now) (Some new.left.now)
waits_left None p old new h = tt
waits_left (Some (Page of title)) p old new h = tt
waits_left (Some (Expand title)) p old new h = tt
waits_left (Some (Edit title)) p old new h = left_by p (λ pages. IsNoText (pages title)) old new h
waits_left (Some (Selser title)) p old new h = left_by p (λ pages. IsNoText (pages title)) old new h
waits_left (Some (Gen n)) p old new h = tt
waits_left (Some Wikitext) p old new h = tt
