-- Each type inside another one is searched with a depth that is smaller by one.
use Rattle.std.proofs.Common.{◌≡◌, ◌+◌, ◌*◌, ◌-◌, ◌≤◌, drop}
use Rattle.btf_relocate_model.specs.Field.{members_of}
use Rattle.btf_view.specs.TypeRef.{record_in}
use Rattle.btf_relocate.specs.Searching.{among, from_id, within, Remembers}
use Rattle.btf_relocate.proofs.search.+search.Given as goal

abbrev pub decreases-search : goal.decreases-search
decreases-search l = 2 * l.depth + 1

abbrev pub decreases-search_members : goal.decreases-search_members
decreases-search_members l = 2 * l.depth

abbrev pub invariant-search_members-loop-index : goal.invariant-search_members-loop-index
invariant-search_members-loop-index l = record {
  same : l.depth ≡ l.fn.depth;
  rest : among (from_id (l.depth - 1) l.table l.name) l.table l.name (record_in l.btf_type).info l.levels (drop l.index (members_of (record_in l.btf_type))) ≡ within l.depth l.table l.name (record_in l.btf_type);
  small : l.levels ≤ l.depth;
  remembers : Remembers l.table l.name l.searched;
}
