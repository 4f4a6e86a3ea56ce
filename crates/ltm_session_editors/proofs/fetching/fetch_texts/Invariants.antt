use Rattle.std.proofs.Common.{◌≡◌, ◌+◌, ◌≤◌, drop, length}
use Rattle.std.specs.Prelude.{IfSome}
use Rattle.std.specs.List.{Contains}
use Rattle.ltm_io.specs.declared.doc.Doc.{Doc}
use Rattle.ltm_session_editors.specs.Each.{each_from}
use Rattle.ltm_session_editors.specs.Files.{text_at}
use Rattle.ltm_session_editors.proofs.Each.{joined}
use Rattle.ltm_session_editors.proofs.fetching.fetch_texts.Given as goal

abbrev pub invariant-loop-doc : goal.invariant-loop-doc
invariant-loop-doc g l = record {
  number : l.editor ≡ l.doc-index + 1;
  count : length l.texts.items ≡ l.doc-index;
  keeps : g.F.Folder.told l.folder ≡ g.F.Folder.told l.fn.folder;
  given : IfSome (g.F.Folder.told l.fn.folder) (λ files. joined l.texts.items (each_from (text_at files) l.editor (drop l.doc-index l.docs)) ≡ each_from (text_at files) 1 l.docs);
  later : (d : Doc) → g.F.Folder.faults l.fn.folder d ≤ g.F.Folder.faults l.folder d;
  others : (d : Doc) → (Contains l.docs d → ⊥) → g.F.Folder.faults l.folder d ≡ g.F.Folder.faults l.fn.folder d;
}
