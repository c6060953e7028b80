use Rattle.btf_view.proofs.Indexes.{no_header, no_strings, no_types, no_places, indexed}
use Rattle.btf_view.proofs.indexing.index.Goals as goal

pub returns-in-Err : goal.returns-in-Err
returns-in-Err c = no_header c.args.endianness c.args.data.now c.args.places.now c.in-Err.error c.in-Err.ensures.0 c.in-Err.ensures.1

pub returns-in_default : goal.returns-in_default
returns-in_default c = no_strings c.args.endianness c.args.data.now c.args.places.now c.in-Ok.header (record { long = c.in-Ok.ensures.0; is = c.in-Ok.ensures.1 }) c.in_default.ensures

pub returns-in_default-section : goal.returns-in_default-section
returns-in_default-section c = no_types c.args.endianness c.args.data.now c.args.places.now c.in-Ok.header (record { long = c.in-Ok.ensures.0; is = c.in-Ok.ensures.1 }) c.in-Some.ensures.0 c.in_default-section.ensures

pub returns-in-Err-fill_places : goal.returns-in-Err-fill_places
returns-in-Err-fill_places c = no_places c.args.endianness c.args.data.now c.in-Some-section.records.now c.fill_places.new.places c.in-Ok.header c.in-Err-fill_places.why (record { long = c.in-Ok.ensures.0; is = c.in-Ok.ensures.1 }) c.in-Some.ensures.0 c.in-Some-section.ensures.0 c.in-Some-section.ensures.1 c.in-Err-fill_places.ensures

pub returns : goal.returns
returns c = indexed c.args.endianness c.args.data.now c.in-Some-section.records.now c.fill_places.new.places c.in-Ok.header c.in-Ok-fill_places.count (record { long = c.in-Ok.ensures.0; is = c.in-Ok.ensures.1 }) c.in-Some.ensures.0 c.in-Some-section.ensures.0 c.in-Some-section.ensures.1 c.in-Ok-fill_places.ensures
