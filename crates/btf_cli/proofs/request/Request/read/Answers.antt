use Rattle.std.proofs.Common.{refl, ap, ◌∙◌, map}
use Rattle.std.proofs.lemmas.Bool.{false≢true}
use Rattle.btf_cli.specs.Setting.{Setting, word_texts}
use Rattle.btf_cli.specs.Settings.{SetIds, ksyms_set, placeholder_set}
use Rattle.btf_cli.specs.Word.{setting_of}
use Rattle.btf_cli.specs.declared.word.Word.{Word}
use Rattle.btf_cli.proofs.Readings.{IsMet, unread, ksyms_again, placeholder_again, read_next, read_whole, first_id, no_id, placeholder_alone, no_ksyms, no_placeholder, some_ids, no_ids}
use Rattle.btf_cli.proofs.Asked.{setting_asked}
use Rattle.btf_cli.proofs.request.Request.read.Goals as goal
use Rattle.btf_cli.proofs.request.Request.read.Goals.{in-Ksyms+in_ok-store_id-in-Ksyms, in-Placeholder+in_ok-store_id-in-Placeholder, in_default, in-Some-default, in-None-None}

pub returns-in_err-id-clause-none : goal.returns-in_err-id-clause-none
returns-in_err-id-clause-none c =
    let met : IsMet c.args.words.now c.loop-word.word-index c.word-item.result c.as_str.result.now c.loop-word.ksyms c.loop-word.placeholder =
    record { within = c.loop-word-test.true; at = c.word-item.is; text_is = c.as_str.ensures.value; read = c.loop-word.invariant } in
    rw c.from_residual.ensures
    (λ request asked.
    unread c.args.words.now c.loop-word.word-index c.word-item.result c.as_str.result.now c.loop-word.ksyms c.loop-word.placeholder met c.in_err-id.ensures.none asked.1.0 (rw asked.0 at asked.1.1.all))

pub returns-in_err-store_id-in-Ksyms-clause-none : goal.returns-in_err-store_id-in-Ksyms-clause-none
returns-in_err-store_id-in-Ksyms-clause-none c =
    let met : IsMet c.args.words.now c.loop-word.word-index c.word-item.result c.as_str.result.now c.loop-word.ksyms c.loop-word.placeholder =
    record { within = c.loop-word-test.true; at = c.word-item.is; text_is = c.as_str.ensures.value; read = c.loop-word.invariant } in
    rw c.from_residual-in_err-store_id-in-Ksyms.ensures
    (λ request asked.
    ksyms_again c.args.words.now c.loop-word.word-index c.word-item.result c.as_str.result.now (setting_of c.in_ok-id.field-0) c.in-Ksyms.id c.loop-word.ksyms c.loop-word.placeholder met
    (λ none. false≢true (c.in_err-store_id-in-Ksyms.ensures.first.1 none)) c.in_ok-id.ensures.some (ap setting_of c.in-Ksyms.is) asked.1.0 request.ksyms (rw asked.0 at asked.1.1.all) asked.1.1.ids)

pub returns-in_err-store_id-in-Placeholder-clause-none : goal.returns-in_err-store_id-in-Placeholder-clause-none
returns-in_err-store_id-in-Placeholder-clause-none c =
    let met : IsMet c.args.words.now c.loop-word.word-index c.word-item.result c.as_str.result.now c.loop-word.ksyms c.loop-word.placeholder =
    record { within = c.loop-word-test.true; at = c.word-item.is; text_is = c.as_str.ensures.value; read = c.loop-word.invariant } in
    rw c.from_residual-in_err-store_id-in-Placeholder.ensures
    (λ request asked.
    placeholder_again c.args.words.now c.loop-word.word-index c.word-item.result c.as_str.result.now (setting_of c.in_ok-id.field-0) c.in-Placeholder.id c.loop-word.ksyms c.loop-word.placeholder met
    (λ none. false≢true (c.in_err-store_id-in-Placeholder.ensures.first.1 none)) c.in_ok-id.ensures.some (ap setting_of c.in-Placeholder.is) asked.1.0 request.ksyms (rw asked.0 at asked.1.1.all) asked.1.1.ids)

pub loop-word-preserved : goal.loop-word-preserved
loop-word-preserved c =
    let met : IsMet c.args.words.now c.loop-word.word-index c.word-item.result c.as_str.result.now c.loop-word.ksyms c.loop-word.placeholder =
    record { within = c.loop-word-test.true; at = c.word-item.is; text_is = c.as_str.ensures.value; read = c.loop-word.invariant } in
    let settings : Setting = setting_of c.in_ok-id.field-0 in
    let next = read_next c.args.words.now c.loop-word.word-index c.word-item.result c.as_str.result.now settings c.loop-word.ksyms c.loop-word.placeholder c.match-branch-2.ksyms c.match-branch-2.placeholder met c.in_ok-id.ensures.some in
    elim c.match-branch-2.branch [
      | in-Ksyms+in_ok-store_id-in-Ksyms w ↦
          next (first_id ksyms_set settings c.loop-word.ksyms c.match-branch-2.ksyms w.in-Ksyms.id (w.in_ok-store_id-in-Ksyms.ensures.first.0 refl) (ap (λ (x : Word). ksyms_set (setting_of x)) w.in-Ksyms.is) (w.ksyms-is ∙ w.in_ok-store_id-in-Ksyms.ensures.kept))
          (no_id placeholder_set settings c.loop-word.placeholder c.match-branch-2.placeholder (ap (λ (x : Word). placeholder_set (setting_of x)) w.in-Ksyms.is) w.placeholder-is)
      | in-Placeholder+in_ok-store_id-in-Placeholder w ↦
          next (no_id ksyms_set settings c.loop-word.ksyms c.match-branch-2.ksyms (ap (λ (x : Word). ksyms_set (setting_of x)) w.in-Placeholder.is) w.ksyms-is)
          (first_id placeholder_set settings c.loop-word.placeholder c.match-branch-2.placeholder w.in-Placeholder.id (w.in_ok-store_id-in-Placeholder.ensures.first.0 refl) (ap (λ (x : Word). placeholder_set (setting_of x)) w.in-Placeholder.is)
          (w.placeholder-is ∙ w.in_ok-store_id-in-Placeholder.ensures.kept))
      | in_default w ↦
          next (no_id ksyms_set settings c.loop-word.ksyms c.match-branch-2.ksyms (no_ksyms c.in_ok-id.field-0 w.in_default.not-Ksyms) w.ksyms-is)
          (no_id placeholder_set settings c.loop-word.placeholder c.match-branch-2.placeholder (no_placeholder c.in_ok-id.field-0 w.in_default.not-Placeholder) w.placeholder-is)
    ]

pub returns-in-None-Some-clause-none : goal.returns-in-None-Some-clause-none
returns-in-None-Some-clause-none c = λ request asked.
    let read = read_whole c.args.words.now c.loop-word.word-index c.loop-word.ksyms c.loop-word.placeholder c.loop-word-test.false c.loop-word.invariant in
    placeholder_alone (word_texts c.args.words.now) c.loop-word.ksyms c.loop-word.placeholder c.in-None-Some.field-0-1 c.in-None-Some.is-0 c.in-None-Some.is-1 asked.1.0 request.ksyms read (rw asked.0 at asked.1.1.all) asked.1.1.ids

pub returns-clause-some : goal.returns-clause-some
returns-clause-some c =
    let read = read_whole c.args.words.now c.loop-word.word-index c.loop-word.ksyms c.loop-word.placeholder c.loop-word-test.false c.loop-word.invariant in
    let words_set = map setting_asked (word_texts c.args.words.now) in
    let ids_set : SetIds words_set c.match-ksyms.ksyms =
    elim c.match-ksyms.branch [
      | in-Some-default w ↦ some_ids (word_texts c.args.words.now) c.loop-word.ksyms c.loop-word.placeholder w.in-Some-default.datasec_id c.match-ksyms.ksyms read w.in-Some-default.is-0 w.ksyms-is
      | in-None-None w ↦ no_ids (word_texts c.args.words.now) c.loop-word.ksyms c.loop-word.placeholder c.match-ksyms.ksyms read w.in-None-None.is-0 w.in-None-None.is-1 w.ksyms-is
    ] in
    (refl, (words_set, record { all = read.set; ids = ids_set }))
