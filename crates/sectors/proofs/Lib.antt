mod Runs
mod First
