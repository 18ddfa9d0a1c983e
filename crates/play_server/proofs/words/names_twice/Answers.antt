use Rattle.std.proofs.Common.{◌∙◌, ◌++◌, None, Some, option_map, refl, sym, ap, codes}
use Rattle.std.specs.Str.{bytes_eq}
use Rattle.clap.specs.Words.{found_of, rows_of}
use Rattle.play_server.proofs.IsLogOf.{by_values, tested_first, tested_second, value_in}
use Rattle.play_server.proofs.words.names_twice.Goals as goal

pub returns-then-eq : goal.returns-then-eq
returns-then-eq c =
    let m = c.args.matches.now in
    let resume = c.in-Some-Some.resume.now in
    let journal = c.in-Some-Some.journal.now in
    tested_first (bytes_eq resume journal) (bytes_eq resume (journal ++ codes ".log")) c.eq.result c.eq.ensures c.if-eq.true
    ∙ by_values (rows_of (found_of m)) (Some resume) (Some journal)
    (value_in m (codes "resume") c.get_str.result (Some resume) c.get_str.ensures (ap (option_map (λ s. s.now)) c.in-Some-Some.is-0))
    (value_in m (codes "journal") c.get_str-2.result (Some journal) c.get_str-2.ensures (ap (option_map (λ s. s.now)) c.in-Some-Some.is-1))

pub returns-else-eq : goal.returns-else-eq
returns-else-eq c =
    let m = c.args.matches.now in
    let resume = c.in-Some-Some.resume.now in
    let journal = c.in-Some-Some.journal.now in
    tested_second (bytes_eq resume journal) (bytes_eq resume (journal ++ codes ".log")) c.is_log_of.result (sym c.eq.ensures ∙ c.if-eq.false) c.is_log_of.ensures
    ∙ by_values (rows_of (found_of m)) (Some resume) (Some journal)
    (value_in m (codes "resume") c.get_str.result (Some resume) c.get_str.ensures (ap (option_map (λ s. s.now)) c.in-Some-Some.is-0))
    (value_in m (codes "journal") c.get_str-2.result (Some journal) c.get_str-2.ensures (ap (option_map (λ s. s.now)) c.in-Some-Some.is-1))

pub returns-in-Some-None : goal.returns-in-Some-None
returns-in-Some-None c =
    let m = c.args.matches.now in
    by_values (rows_of (found_of m)) (Some c.in-Some-None.field-0-0.now) None
    (value_in m (codes "resume") c.get_str.result (Some c.in-Some-None.field-0-0.now) c.get_str.ensures (ap (option_map (λ s. s.now)) c.in-Some-None.is-0))
    (value_in m (codes "journal") c.get_str-2.result None c.get_str-2.ensures (ap (option_map (λ s. s.now)) c.in-Some-None.is-1))

pub returns-in-Some-None-2 : goal.returns-in-Some-None-2
returns-in-Some-None-2 c =
    let m = c.args.matches.now in
    by_values (rows_of (found_of m)) None _
    (value_in m (codes "resume") c.get_str.result None c.get_str.ensures (ap (option_map (λ s. s.now)) c.in-Some-None.is-0))
    refl
