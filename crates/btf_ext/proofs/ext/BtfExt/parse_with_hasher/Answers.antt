use Rattle.std.proofs.Common.{◌≡◌, ◌∙◌, List, Err, length, map, refl, ap, arith}
use Rattle.std.proofs.lemmas.Option.{IfSome_then}
use Rattle.btf_model.specs.Ext.{IsExt, relocation_section}
use Rattle.btf_plain.specs.Error.{refusal_of}
use Rattle.btf_ext.specs.BtfExt.{ext}
use Rattle.btf_ext.specs.ExtHeader.{ext_header, range, part}
use Rattle.btf_ext.specs.SecInfo.{section_of}
use Rattle.btf_ext.specs.declared.sections.SecInfo.{SecInfo}
use Rattle.btf_ext.proofs.Exts.{HasParts, line_refused, core_refused, funcs_refused, lines_refused, relocations_refused, whole_ext, some_sections, wide_part}
use Rattle.btf_plain.proofs.Refused.{handed_on, known_refusal}
use Rattle.btf_ext.proofs.ext.BtfExt.parse_with_hasher.Goals as goal

pub returns-in_err-line-clause-ext : goal.returns-in_err-line-clause-ext
returns-in_err-line-clause-ext g c =
    handed_on ext c.in_err-line.field-0.0 c.from_residual-in_err-line.result (IsExt c.args.endianness c.args.data.now c.args.btf.now.strings) c.from_residual-in_err-line.ensures.1
    (known_refusal c.in_err-line.field-0.0 c.in_err-line.ensures.0 (λ f. IsExt c.args.endianness c.args.data.now c.args.btf.now.strings (Err f)) c.in_err-line.ensures.1
    (line_refused c.args.endianness c.args.data.now c.args.btf.now.strings (ext_header c.in_ok-header.header) (part c.in_ok-func.func) c.in_err-line.ensures.0 c.in_ok-header.ensures c.in_ok-func.ensures c.in_err-line.ensures.2))

pub returns-in_err-core-clause-ext : goal.returns-in_err-core-clause-ext
returns-in_err-core-clause-ext g c =
    handed_on ext c.in_err-core.field-0.0 c.from_residual-in_err-core.result (IsExt c.args.endianness c.args.data.now c.args.btf.now.strings) c.from_residual-in_err-core.ensures.1
    (known_refusal c.in_err-core.field-0.0 c.in_err-core.ensures.0 (λ f. IsExt c.args.endianness c.args.data.now c.args.btf.now.strings (Err f)) c.in_err-core.ensures.1
    (core_refused c.args.endianness c.args.data.now c.args.btf.now.strings (ext_header c.in_ok-header.header) (part c.in_ok-func.func) (part c.in_ok-line.line) c.in_err-core.ensures.0 c.in_ok-header.ensures c.in_ok-func.ensures c.in_ok-line.ensures c.in_err-core.ensures.2))

pub returns-in_err-func_info-clause-ext : goal.returns-in_err-func_info-clause-ext
returns-in_err-func_info-clause-ext g c =
    let parts : HasParts c.args.endianness c.args.data.now (ext_header c.in_ok-header.header) (part c.in_ok-func.func) (part c.in_ok-line.line) (part c.in_ok-core.core) = record { header = c.in_ok-header.ensures; func_part = c.in_ok-func.ensures; line_part = c.in_ok-line.ensures; core_part = c.in_ok-core.ensures } in
    handed_on ext c.in_err-func_info.field-0.0 c.from_residual-in_err-func_info.result (IsExt c.args.endianness c.args.data.now c.args.btf.now.strings) c.from_residual-in_err-func_info.ensures.1
    (IfSome_then (refusal_of c.in_err-func_info.field-0.0) c.in_err-func_info.ensures.sections (λ f e.
    funcs_refused c.args.endianness c.args.data.now c.args.btf.now.strings (ext_header c.in_ok-header.header) (part c.in_ok-func.func) (part c.in_ok-line.line) (part c.in_ok-core.core) f parts e))

pub returns-in_err-line_info-clause-ext : goal.returns-in_err-line_info-clause-ext
returns-in_err-line_info-clause-ext g c =
    let parts : HasParts c.args.endianness c.args.data.now (ext_header c.in_ok-header.header) (part c.in_ok-func.func) (part c.in_ok-line.line) (part c.in_ok-core.core) = record { header = c.in_ok-header.ensures; func_part = c.in_ok-func.ensures; line_part = c.in_ok-line.ensures; core_part = c.in_ok-core.ensures } in
    handed_on ext c.in_err-line_info.field-0.0 c.from_residual-in_err-line_info.result (IsExt c.args.endianness c.args.data.now c.args.btf.now.strings) c.from_residual-in_err-line_info.ensures.1
    (IfSome_then (refusal_of c.in_err-line_info.field-0.0) c.in_err-line_info.ensures.sections (λ f e.
    lines_refused c.args.endianness c.args.data.now c.args.btf.now.strings (ext_header c.in_ok-header.header) (part c.in_ok-func.func) (part c.in_ok-line.line) (part c.in_ok-core.core) c.in_ok-func_info.ensures.sections.0 f parts c.in_ok-func_info.ensures.sections.1 e))

pub returns-in_err-relocations-clause-ext : goal.returns-in_err-relocations-clause-ext
returns-in_err-relocations-clause-ext g c =
    let parts : HasParts c.args.endianness c.args.data.now (ext_header c.in_ok-header.header) (part c.in_ok-func.func) (part c.in_ok-line.line) (part c.in_ok-core.core) = record { header = c.in_ok-header.ensures; func_part = c.in_ok-func.ensures; line_part = c.in_ok-line.ensures; core_part = c.in_ok-core.ensures } in
    handed_on ext c.in_err-relocations.field-0.0 c.from_residual-in_err-relocations.result (IsExt c.args.endianness c.args.data.now c.args.btf.now.strings) c.from_residual-in_err-relocations.ensures.1
    (IfSome_then (refusal_of c.in_err-relocations.field-0.0) c.in_err-relocations.ensures (λ f e.
    relocations_refused c.args.endianness c.args.data.now c.args.btf.now.strings (ext_header c.in_ok-header.header) (part c.in_ok-func.func) (part c.in_ok-line.line) (part c.in_ok-core.core) c.in_ok-func_info.ensures.sections.0 c.in_ok-line_info.ensures.sections.0 f parts c.in_ok-func_info.ensures.sections.1 c.in_ok-line_info.ensures.sections.1 e))

pub read-requires-5 : goal.read-requires-5
read-requires-5 g c = λ some.
    let least : (range c.in_ok-header.header.func).least ≡ 8 = ap (λ h. h.func.least) c.in_ok-header.ensures.2 in
    let wide = wide_part c.args.endianness c.args.data.now (range c.in_ok-header.header.func) (part c.in_ok-func.func) c.in_ok-func.ensures some in
    omega (arith, wide, least)

pub read-requires-6 : goal.read-requires-6
read-requires-6 g c = λ some.
    let least : (range c.in_ok-header.header.line).least ≡ 16 = ap (λ h. h.line.least) c.in_ok-header.ensures.2 in
    let wide = wide_part c.args.endianness c.args.data.now (range c.in_ok-header.header.line) (part c.in_ok-line.line) c.in_ok-line.ensures some in
    omega (arith, wide, least)

pub read_relocations-requires-clause-wide : goal.read_relocations-requires-clause-wide
read_relocations-requires-clause-wide g c = λ lt.
    let least : (range c.in_ok-header.header.core).least ≡ 16 = ap (λ h. h.core.least) c.in_ok-header.ensures.2 in
    let wide = wide_part c.args.endianness c.args.data.now (range c.in_ok-header.header.core) (part c.in_ok-core.core) c.in_ok-core.ensures (some_sections c.in_ok-core.core.rec_size c.in_ok-relocations.relocations.items c.in_ok-relocations.ensures.0 (omega (arith, lt, ap length c.deref.ensures.value))) in
    omega (arith, wide, least)

pub returns-clause-ext : goal.returns-clause-ext
returns-clause-ext g c =
    let parts : HasParts c.args.endianness c.args.data.now (ext_header c.in_ok-header.header) (part c.in_ok-func.func) (part c.in_ok-line.line) (part c.in_ok-core.core) = record { header = c.in_ok-header.ensures; func_part = c.in_ok-func.ensures; line_part = c.in_ok-line.ensures; core_part = c.in_ok-core.ensures } in
    let order = c.args.endianness in
    let funcs = c.in_ok-func_info.ensures.sections in
    let lines = c.in_ok-line_info.ensures.sections in
    whole_ext order c.args.data.now c.args.btf.now.strings (ext_header c.in_ok-header.header) (part c.in_ok-func.func) (part c.in_ok-line.line) (part c.in_ok-core.core) funcs.0 lines.0 (map section_of c.in_ok-relocations.relocations.items)
    (ext (record { func_info_rec_size = c.in_ok-func.func.rec_size; func_info = c.in_ok-func_info.func_info; line_info_rec_size = c.in_ok-line.line.rec_size; line_info = c.in_ok-line_info.line_info; relocations = c.in_ok-read_relocations.field-0 }))
    parts funcs.1 lines.1 c.in_ok-relocations.ensures refl funcs.2 refl lines.2
    (c.in_ok-read_relocations.ensures ∙ ap (λ (xs : List SecInfo). map (relocation_section order c.in_ok-core.core.rec_size) (map section_of xs)) c.deref.ensures.value)
