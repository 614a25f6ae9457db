mod Changed
mod Readable
mod Shown
mod Spare
mod Told
mod Witnessed
