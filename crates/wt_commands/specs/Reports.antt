-- What a call wrote to its two sinks.
use Rattle.std.specs.Prelude.{◌≡◌, ◌≤◌, ℕ, ◌⊎◌, List, length, Option, Some, None, IfSome, Result, Ok, Err}
use Rattle.std.specs.Io.KnownBytes.{Appends, IsAtEnd}
use Rattle.wt_devices.specs.Device.{Pages}
use Rattle.wt_expand.specs.Texts.{shown_text}
use Rattle.wt_expand.specs.PageCalls.{expanded_page}
use Rattle.wt_tree.specs.Tree.{Tree}
use Rattle.wt_tree.specs.Plain.{plain}
use Rattle.wt_tree.specs.Source.{flat}
use Rattle.wt_tree.specs.Tiling.{Tiled, Covers, InPreorder}
use Rattle.wt_annotated.specs.Reached.{AreReachedSlices}
use Rattle.wt_schema.specs.Read.{page as as_page, read}
use Rattle.wt_schema.specs.Html.{html_text}
use Rattle.wt_page_round_trip.specs.PageTree.{page_tree}
use Rattle.wt_slices.specs.BodySlices.{slices}
use Rattle.wt_visible.specs.Restored.{restored_from}
use Rattle.wt_visible.specs.SameNodes.{same_node}
use Rattle.wt_splice.specs.Splice.{spliced, OutsideStands}
use Rattle.wt_span.specs.declared.limits.TheConstants.{HTML_BYTES}
use Rattle.wt_commands.specs.declared.status.Status.{Status}
use Rattle.wt_commands.specs.declared.status.Status.TheVariants as status
use Rattle.wt_commands.specs.declared.refusal.Refusal.{Refusal}
use Rattle.wt_commands.specs.declared.refusal.Refusal.TheVariants.{WriteFault, NoMemory}
use Rattle.wt_commands.specs.declared.output.Output.{Output}
use Rattle.wt_commands.specs.declared.command.PageCommand.{PageCommand}
use Rattle.wt_commands.specs.Outputs.{output_bytes}
use Rattle.wt_commands.specs.Devices.{SinkUse, Untouched, Took, FailedAfter, TookOrFailed}
use Rattle.wt_commands.specs.Gen.{back, gen_line, gen_page, gen_pages}
use Rattle.wt_commands.specs.Statuses.{code}
use Rattle.wt_commands.specs.Refusals.{status_of, line_of}
use Rattle.wt_commands.specs.Answers.{done, answer_of_edit, checked_edit, page_output, refusal_of_page, IsUnrefused}
use Rattle.wt_commands.specs.Calls.{Call, known_answer, IsDue}

-- ---- what was found goes to the sinks

-- An answer was written, and no line; or a front of it, and the line of a write fault as far as `err` took it.
abbrev pub Gave : List ℕ → Status → SinkUse → SinkUse → Type 0
Gave bytes s out err =
    ((s ≡ status.Done) × Took out bytes × Untouched err)
    ⊎ ((s ≡ status.WriteFault) × FailedAfter out bytes × TookOrFailed err (line_of WriteFault))

-- A refusal was written, or it could not be.
abbrev pub WroteLine : Refusal → Status → SinkUse → Type 0
WroteLine r s err =
    ((s ≡ status_of r) × Took err (line_of r))
    ⊎ ((s ≡ status.WriteFault) × FailedAfter err (line_of r))

-- the refusal, or want of memory for its line
abbrev pub Refused : Refusal → Status → SinkUse → SinkUse → Type 0
Refused r s out err = Untouched out × (WroteLine r s err ⊎ WroteLine NoMemory s err)

-- an answer, or a refusal
abbrev pub Reported : Result Output Refusal → Status → SinkUse → SinkUse → Type 0
Reported (Ok output) s out err = Gave (output_bytes output) s out err
Reported (Err r) s out err = Refused r s out err

-- ---- how a call ends

-- `out` took the whole answer, and `err` nothing
pub record WasDone (c : Call) : Type 0 where
  pub bytes : List ℕ
  pub answer : IfSome (known_answer c) (λ a. a ≡ done bytes)
  pub wrote : Took c.out bytes
  pub silent : Untouched c.err

-- `out` took nothing, and `err` the one line of a refusal that is due and ends a call so
pub record WasRefused (c : Call) (ended : ℕ) : Type 0 where
  pub refusal : Refusal
  pub due : IsDue c.words c.input c.folder refusal
  pub named : ended ≡ code (status_of refusal)
  pub nothing : Untouched c.out
  pub line : Took c.err (line_of refusal)

-- `out` failed and took a front of the answer, and `err` the line of a write fault, or a front of it and failed too
pub record OutFailed (c : Call) : Type 0 where
  pub bytes : List ℕ
  pub answer : IfSome (known_answer c) (λ a. a ≡ done bytes)
  pub front : FailedAfter c.out bytes
  pub line : TookOrFailed c.err (line_of WriteFault)

-- `err` failed and took a front of the line of a refusal that is due, and `out` nothing
pub record ErrFailed (c : Call) : Type 0 where
  pub refusal : Refusal
  pub due : IsDue c.words c.input c.folder refusal
  pub nothing : Untouched c.out
  pub front : FailedAfter c.err (line_of refusal)

-- ---- what is written

-- Under the title is a page whose expansion nothing refuses, and `out` took what the command writes of the tree of the
-- expanded page. The ranges of this tree tile the page from its first byte to its last; at the range of each node that is in
-- no group is its source, with delimiters as wide as it says; and its numbers are in preorder.
pub record WrotePage (command : PageCommand) (pages : Pages) (title : List ℕ) (old new : Option (List ℕ)) : Type 0 where
  pub page : List ℕ
  pub found : pages title ≡ Some page
  pub unrefused : refusal_of_page pages page ≡ None
  pub wrote : Appends old new (page_output command page (page_tree pages page))
  pub tiled : Tiled (page_tree pages page)
  pub covers : Covers (length page) (page_tree pages page)
  pub slices : AreReachedSlices page (page_tree pages page)
  pub numbered : InPreorder (page_tree pages page)

-- under the title is a page whose expansion nothing refuses, and `out` took the items of the expanded page: a character by
-- its bytes, an atom by its source, and nothing for a mark
pub record WroteExpansion (pages : Pages) (title : List ℕ) (old new : Option (List ℕ)) : Type 0 where
  pub page : List ℕ
  pub found : pages title ≡ Some page
  pub unrefused : refusal_of_page pages page ≡ None
  pub wrote : Appends old new (shown_text (expanded_page pages page).items)

-- `out` took the line of the page that is made with so many sections; as many bytes come back from its HTML as it has
pub record WroteCounts (count : ℕ) (old new : Option (List ℕ)) : Type 0 where
  pub wrote : Appends old new (gen_line (length (gen_page count)) (page_tree gen_pages (gen_page count)))
  pub comes_back : back (read (html_text (page_tree gen_pages (gen_page count)))) ≡ length (gen_page count)

-- the whole input stands for a page each of whose elements says its source, and `out` took the source of its tree
pub record WroteSource (input : List ℕ) (left old new : Option (List ℕ)) : Type 0 where
  pub tree : Tree
  pub within : length input ≤ HTML_BYTES
  pub reads : read input ≡ as_page tree None
  pub ended : IsAtEnd left
  pub wrote : Appends old new (flat tree)

-- The new page of an edit: the page with its slices, and nothing else, replaced: the insides of nodes marked `content`, what goes and
-- what comes among children.
abbrev pub new_page : Pages → List ℕ → Tree → List ℕ
new_page pages page edited = spliced page (slices same_node (page_tree pages page) edited)

-- Under the title is a page whose expansion nothing refuses, and the whole input stands for an edited tree that differs
-- from the page's only where it may; nothing refuses the edit, and `out` took the new page, in which all that is outside these
-- slices is as in the page, byte for byte and in its order. Nothing refuses the new page or its expansion, and
-- the plain view of its tree is that of the edited tree, in which a kept group is what the page's group of its number holds.
pub record WroteEdit (pages : Pages) (title input : List ℕ) (left old new : Option (List ℕ)) : Type 0 where
  pub page : List ℕ
  pub edited : Tree
  pub unsourced : Option ℕ
  pub found : pages title ≡ Some page
  pub within : length input ≤ HTML_BYTES
  pub reads : read input ≡ as_page edited unsourced
  pub ended : IsAtEnd left
  pub expanded : refusal_of_page pages page ≡ None
  pub allowed : checked_edit (page_tree pages page) edited ≡ None
  pub unrefused : answer_of_edit pages page edited ≡ Ok (new_page pages page edited)
  pub wrote : Appends old new (new_page pages page edited)
  pub outside : OutsideStands page (new_page pages page edited) (slices same_node (page_tree pages page) edited)
  pub answered : IsUnrefused pages (new_page pages page edited)
  pub shows : plain (page_tree pages (new_page pages page edited)) ≡ plain (restored_from (page_tree pages page) edited)
