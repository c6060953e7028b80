-- What the records that are left become completes what the records so far became.
use Rattle.std.proofs.Common.{drop}
use Rattle.btf_relocate.specs.Modules.{targets_view}
use Rattle.btf_relocate.proofs.SectionsAmong.{Continues}
use Rattle.btf_relocate.proofs.section.relocate_all.Given as goal

abbrev pub invariant-loop-record : goal.invariant-loop-record
invariant-loop-record l =
    Continues l.policy l.local (targets_view l.targets) l.fn.left.lists l.fn.code l.records l.reports.items l.left.lists l.code (drop l.record-index l.records)
