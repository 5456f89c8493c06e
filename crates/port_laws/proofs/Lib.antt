mod Units
mod Rest
mod Holding
mod Records
mod Lasting
