use Rattle.bench_file.proofs.form.+read_sample.Given as goal

abbrev pub decreases-read_sample : goal.decreases-read_sample
decreases-read_sample l = l.signals
