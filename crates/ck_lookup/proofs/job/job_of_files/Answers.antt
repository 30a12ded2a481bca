use Rattle.ck_lookup.proofs.Scripting.{first_mapped}
use Rattle.ck_lookup.proofs.job.job_of_files.Goals as goal

pub returns-clause-said : goal.returns-clause-said
returns-clause-said g c update_file query_files is =
    let same = first_mapped (λ file. file.items) c.args.files.now c.update_file-item.result update_file query_files is c.update_file-item.is in
    rw (c.deref.ensures.value, same.0, same.1) at c.read_scripts_by.ensures.said
